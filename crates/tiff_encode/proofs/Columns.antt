-- The columns of a row of pixels.
use Rattle.std.proofs.Common.{◌≡◌, ℕ, ◌+◌, ◌*◌, ◌/◌, ◌<◌, ◌≤◌, inl, inr, Bool, true, false, cond, List, [], ◌∷◌, get_or, length, refl, ap, sym, ◌∙◌, subst, arith, lit<}
use Rattle.std.specs.Prelude.{All}
use Rattle.std.proofs.lemmas.Bool.{ltb-true}
use Rattle.std.proofs.Math.Nat.{mul-le-mul_left}
use Rattle.tiff_base.specs.declared.color.ChunkType.{ChunkType}
use Rattle.tiff_base.specs.declared.color.ChunkType.TheVariants.{Strip, Tile}
use Rattle.tiff_base.specs.declared.tags.«Type».{«Type»}
use Rattle.tiff_base.specs.declared.tags.«Type».TheVariants as field
use Rattle.tiff_base.specs.Types.{type_size}
use Rattle.tiff_value.specs.declared.encoder.colortype.ColorTypeName.{ColorTypeName}
use Rattle.tiff_value.specs.ColorType.{ColorTypeRecord, IsColorType, ArePacked, first_bits, is_packed, columns_of}
use Rattle.tiff_value.specs.ColorTypes.{inner_type, inner_size}
use Rattle.tiff_page.specs.Counts.{parts}
use Rattle.tiff_encode.specs.Machine.{OpenImage}
use Rattle.tiff_encode.specs.Drawn.{IsSide, IsForm, HoldsPixels}
use Rattle.tiff_encode.specs.Chunks.{pixels_across}
use Rattle.tiff_encode.specs.lemmas.ImageState.{one_part}

-- a number of each field type has at least one byte
pub type_some : (type : «Type») → 0 < type_size type
type_some field.BYTE = lit< tt
type_some type = lit< tt

pub size_some : (name : ColorTypeName) → 0 < inner_size name
size_some name = type_some (inner_type name)

-- the first of samples of whole bytes isn't narrow
wide_bits : (size : ℕ) (bits : List ℕ) → 0 < length bits → All (λ (b : ℕ). b ≡ 8 * size) bits
    → 0 < size → get_or bits 0 0 < 8 → ⊥
wide_bits size [] some full s l = omega (arith, some)
wide_bits size (b ∷ bits) some full s l = omega (arith, s, l, full)

-- samples of fewer than 8 bits are packed
pub packed_bits : (size : ℕ) (c : ColorTypeRecord) → IsColorType size c → 0 < size
    → is_packed c ≡ true → ArePacked size c
packed_bits size c l s p = elim l.full [
  | inl full ↦ absurd (wide_bits size c.bits l.some full s (ltb-true (first_bits c) 8 p))
  | inr packed ↦ packed
]

-- packed pixels have at least one bit
pub some_bits : (size : ℕ) (c : ColorTypeRecord) → ArePacked size c → 0 < first_bits c
some_bits size c a =
    let P : List ℕ → Type 0 = λ bits. 0 < get_or bits 0 0 in
    elim a.narrow [
      | inl e ↦ subst P (sym e) (lit< tt)
      | inr t ↦ elim t [ inl e ↦ subst P (sym e) (lit< tt) | inr e ↦ subst P (sym e) (lit< tt) ]
    ]

-- pixels of fewer than 8 bits fill no more bytes than they are, and at least one
filled : (width bits : ℕ) → 0 < bits → bits < 8 → IsSide width → IsSide ((width * bits + 7) / 8)
filled width bits some few w =
    let most : width * bits ≤ width * 8 = mul-le-mul_left width (omega (arith, few)) in
    let least : width * 1 ≤ width * bits = mul-le-mul_left width some in
    let a = w.0 in let b = w.1 in
    (omega (arith, least, a), omega (arith, most, b))

pub columns_side : (size : ℕ) (c : ColorTypeRecord) (width : ℕ) → IsColorType size c → 0 < size
    → IsSide width → IsSide (columns_of c width)
columns_side size c width l s w =
    let P : Bool → Type 0 =
    λ b. is_packed c ≡ b → IsSide (cond b ((width * first_bits c + 7) / 8) width) in
    elim (is_packed c) as P [
      | true ↦ λ p. filled width (first_bits c) (some_bits size c (packed_bits size c l s p))
          (ltb-true (first_bits c) 8 p) w
      | false ↦ λ p. w
    ] refl

-- ---- the columns of an image

-- pixels that aren't packed are columns
pub columns_plain : (i : OpenImage) → HoldsPixels i → is_packed i.color ≡ false → i.width ≡ i.pixels
columns_plain i h n =
    h.columns ∙ ap (λ b. cond b ((i.pixels * first_bits i.color + 7) / 8) i.pixels) n

pub columns_packed : (i : OpenImage) → HoldsPixels i → is_packed i.color ≡ true
    → i.width ≡ (i.pixels * first_bits i.color + 7) / 8
columns_packed i h p =
    h.columns ∙ ap (λ b. cond b ((i.pixels * first_bits i.color + 7) / 8) i.pixels) p

no_strip : Tile ≡ Strip → ⊥
no_strip e = cc

-- an image of tiles has no packed pixels
tiles_plain : (i : OpenImage) → HoldsPixels i → i.form.chunk_type ≡ Tile → (b : Bool)
    → is_packed i.color ≡ b → i.width ≡ i.pixels
tiles_plain i h e true p = absurd (no_strip (sym e ∙ (h.plain p).0))
tiles_plain i h e false n = columns_plain i h n

-- as many chunks are side by side in the page that the reader finds
pub across_same : (i : OpenImage) → IsSide i.width → IsForm i.width i.form → HoldsPixels i
    → (c : ChunkType) → i.form.chunk_type ≡ c
    → parts i.pixels (pixels_across c i.pixels i.form.chunk_width)
    ≡ parts i.width i.form.chunk_width
across_same i w f h Strip e =
    one_part i.pixels i.pixels h.some.0 (omega arith)
    ∙ sym (ap (λ n. parts i.width n) (f.strips e) ∙ one_part i.width i.width w.0 (omega arith))
across_same i w f h Tile e =
    ap (λ n. parts n i.form.chunk_width) (sym (tiles_plain i h e (is_packed i.color) refl))
