-- The page of an image of a named color type has a color with no more samples than a pixel.
use Rattle.std.proofs.Common.{◌≡◌, ◌==◌, ℕ, ◌+◌, ◌*◌, ◌<◌, ◌≤◌, ◌⊎◌, inl, inr, true, false, cond, Bool, List, [], ◌∷◌, length, get_or, replicate, Ok, refl, ap, sym, ◌∙◌, subst, arith, lit<}
use Rattle.std.proofs.lemmas.Bool.{ne_eqb}
use Rattle.std.proofs.lemmas.List.{length-replicate}
use Rattle.tiff_base.specs.declared.color.ColorType.{ColorType}
use Rattle.tiff_base.specs.declared.color.ColorType.TheVariants.{Gray, RGB, RGBA, CMYK, CMYKA, YCbCr, Multiband}
use Rattle.tiff_base.specs.declared.tags.ExtraSamples.{ExtraSamples}
use Rattle.tiff_base.specs.declared.tags.PhotometricInterpretation.{PhotometricInterpretation}
use Rattle.tiff_base.specs.declared.tags.PhotometricInterpretation.TheVariants as meaning
use Rattle.tiff_base.specs.declared.tags.«Type».{«Type»}
use Rattle.tiff_base.specs.declared.tags.«Type».TheVariants as field
use Rattle.tiff_base.specs.Color.{num_samples}
use Rattle.tiff_base.specs.Types.{type_size}
use Rattle.tiff_value.specs.declared.encoder.colortype.ColorTypeName.{ColorTypeName}
use Rattle.tiff_value.specs.declared.encoder.colortype.ColorTypeName.TheVariants as color
use Rattle.tiff_value.specs.ColorType.{ColorTypeRecord}
use Rattle.tiff_value.specs.ColorTypes.{Family, meaning_of, count_of, family_and_type, depth_of, color_type, inner_type, inner_size}
use Rattle.tiff_value.specs.ColorTypes as family
use Rattle.tiff_page.specs.Page.{PageRecord}
use Rattle.tiff_page.specs.Layout.{first_is_alpha, photometric, color_from, color_of}
use Rattle.tiff_page.specs.Pixels.{shown_number}
use Rattle.tiff_page.specs.Row.{IsSize}
use Rattle.tiff_encode.specs.Machine.{OpenImage}
use Rattle.tiff_encode.specs.Chunks.{all_samples, image_page}

-- ---- the form of a color type

-- a sample has all bits of its bytes; or pixels of one gray sample are packed into bytes
abbrev pub IsDeep : ℕ → Family → ℕ → Type 0
IsDeep depth f size =
    (depth ≡ 8 * size) ⊎ ((f ≡ family.Gray) × ((size ≡ 1) × ((0 < depth) × (depth < 8))))

-- A color type of a family, whose samples have the given number of bytes.
pub record IsOf (c : ColorTypeRecord) (size : ℕ) : Type 0 where
  pub family : Family
  pub interpretation : c.interpretation ≡ meaning_of family
  pub depth : ℕ
  pub bits : c.bits ≡ replicate (count_of family) depth
  pub is_deep : IsDeep depth family size
  pub is_size : IsSize size

-- a number of each field type has a number of bytes that a sample may have
pub size_of_type : (type : «Type») → IsSize (type_size type)
size_of_type field.BYTE = grind arith
size_of_type type = grind arith

-- the samples of each named color type have all bits of their bytes, or are packed
deep : (name : ColorTypeName)
    → IsDeep (depth_of name) (family_and_type name).0 (type_size (family_and_type name).1)
deep color.Gray1 = inr (refl, (refl, (lit< tt, lit< tt)))
deep color.Gray2 = inr (refl, (refl, (lit< tt, lit< tt)))
deep color.Gray4 = inr (refl, (refl, (lit< tt, lit< tt)))
deep name = inl refl

-- each named color type is of a family
pub of_family : (name : ColorTypeName) → IsOf (color_type name) (inner_size name)
unfolding color_type inner_type
of_family name = record {
  family = (family_and_type name).0;
  interpretation = refl;
  depth = depth_of name;
  bits = refl;
  is_deep = deep name;
  is_size = size_of_type (family_and_type name).1;
}

-- ---- the color of a family

-- a color with no more samples than a pixel
abbrev pub HasColor : PhotometricInterpretation → PageRecord → ℕ → Type 0
HasColor interpretation p most =
    (color : ColorType) × ((color_from interpretation p ≡ Ok color) × (num_samples color ≤ most))

-- one of two colors, by a test
by_test : (b : Bool) (x y : ColorType) (interpretation : PhotometricInterpretation) (p : PageRecord)
    (most : ℕ)
    → color_from interpretation p ≡ Ok (cond b x y) → (b ≡ true → num_samples x ≤ most)
    → num_samples y ≤ most
    → HasColor interpretation p most
by_test true x y interpretation p most e h k = (x, (e, h refl))
by_test false x y interpretation p most e h k = (y, (e, k))

-- if the first extra sample is alpha, there is at least one
some_alpha : (extra : List ExtraSamples) → first_is_alpha extra ≡ true → 1 ≤ length extra
some_alpha [] e = cc
some_alpha (x ∷ extra) e = omega arith

-- a page with the samples of a family, without the extra ones
module _ (p : PageRecord) (most : ℕ) (all : p.samples ≤ most) where
  gray_has : p.samples ≡ 1 + length p.extra → HasColor meaning.BlackIsZero p most
  gray_has e =
      let P : List ExtraSamples → Type 0 =
      λ xs. p.samples ≡ 1 + length xs → HasColor meaning.BlackIsZero p most in
      elim p.extra as P [
        | [] ↦ λ z. (Gray p.depth, (rw z refl, omega (arith, all, z)))
        | x ∷ xs ↦ λ z.
            let t : (p.samples == 1) ≡ false = ne_eqb p.samples 1 (λ q. omega (arith, q, z)) in
            (Multiband p.depth p.samples, (rw t refl, all))
      ] e

  pub family_has : (f : Family) → p.samples ≡ count_of f + length p.extra
      → photometric p ≡ count_of f → HasColor (meaning_of f) p most
  family_has family.Gray e h = gray_has e
  family_has family.RGB e h =
      by_test (first_is_alpha p.extra) (RGBA p.depth) (RGB p.depth) meaning.RGB p most (rw h refl)
      (λ t. omega (arith, all, e, some_alpha p.extra t)) (omega (arith, all, e))
  family_has family.RGBA e h = (RGBA p.depth, (rw h refl, omega (arith, all, e)))
  family_has family.CMYK e h =
      by_test (first_is_alpha p.extra) (CMYKA p.depth) (CMYK p.depth) meaning.CMYK p most (rw h refl)
      (λ t. omega (arith, all, e, some_alpha p.extra t)) (omega (arith, all, e))
  family_has family.CMYKA e h = (CMYKA p.depth, (rw h refl, omega (arith, all, e)))
  family_has family.YCbCr e h = (YCbCr p.depth, (rw h refl, omega (arith, all, e)))

-- the numbers of no family are inverted
plain_family : (f : Family) (limit v : ℕ)
    → shown_number (meaning_of f) limit v ≡ v
plain_family family.Gray limit v = refl
plain_family f limit v = refl

-- the first of equal values
pub first_of : {A : Type 0} (f : Family) (x default : A)
    → get_or (replicate (count_of f) x) 0 default ≡ x
first_of family.Gray x default = refl
first_of f x default = refl

-- The required properties of an image's color.
pub record IsColored (i : OpenImage) : Type 0 where
  pub color : ColorType
  pub is_color : color_of (image_page i) ≡ Ok color
  pub few : num_samples color ≤ all_samples i
  pub depth : (image_page i).depth ≡ 8 * i.size
  pub is_size : IsSize i.size
  pub upright : (limit v : ℕ) → shown_number i.color.interpretation limit v ≡ v

-- an image whose color type is of a family
pub colored : (i : OpenImage) → IsOf i.color i.size → IsColored i
unfolding color_of
colored i c =
    let p : PageRecord = image_page i in
    let f : Family = c.family in
    let many : length i.color.bits ≡ count_of f =
    ap length c.bits ∙ length-replicate (count_of f) c.depth in
    let has =
    family_has p (all_samples i) (omega arith) f (omega (arith, many)) (omega (arith, many)) in
    record {
      color = has.0;
      is_color = ap (λ (m : PhotometricInterpretation). color_from m p) c.interpretation ∙ has.1.0;
      few = has.1.1;
      depth = refl;
      is_size = c.is_size;
      upright = λ limit v.
          ap (λ (m : PhotometricInterpretation). shown_number m limit v) c.interpretation
          ∙ plain_family f limit v;
    }

-- the color type of an image with a name is of a family
pub is_of_family : (i : OpenImage) (name : ColorTypeName) → i.color ≡ color_type name
    → i.size ≡ inner_size name → IsOf i.color i.size
is_of_family i name c s =
    let P : ColorTypeRecord → Type 0 = λ x. IsOf x i.size in
    let Q : ℕ → Type 0 = λ n. IsOf (color_type name) n in
    subst P (sym c) (subst Q (sym s) (of_family name))
