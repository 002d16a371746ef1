-- All samples of a named color type have the same depth and the same format.
use Rattle.std.proofs.Common.{zero, suc, ◌≡◌, ℕ, ◌+◌, ◌-◌, ◌^◌, ◌<◌, ◌==◌, List, ◌∷◌, length, map, replicate, get_or, true, Some, Ok, refl, ap, sym, ◌∙◌, subst, arith, lit<}
use Rattle.std.proofs.lemmas.Bool.{eq-eqb, ne_eqb}
use Rattle.std.proofs.lemmas.List.{length-replicate}
use Rattle.std.specs.List.{list_all}
use Rattle.tiff_base.specs.declared.tags.FileKind.{FileKind}
use Rattle.tiff_base.specs.declared.tags.SampleFormat.{SampleFormat}
use Rattle.tiff_base.specs.declared.tags.Tag.TheVariants as tag
use Rattle.tiff_base.specs.declared.tags.«Type».{«Type»}
use Rattle.tiff_base.specs.declared.tags.«Type».TheVariants as field
use Rattle.tiff_base.specs.Tags.{format_number}
use Rattle.tiff_base.specs.Tags as kinds
use Rattle.tiff_value.specs.ColorType.{ColorTypeRecord}
use Rattle.tiff_value.specs.declared.encoder.colortype.ColorTypeName.{ColorTypeName}
use Rattle.tiff_value.specs.declared.encoder.colortype.ColorTypeName.TheVariants as color
use Rattle.tiff_value.specs.ColorTypes.{Family, count_of, format_of_type, family_and_type, depth_of, color_type}
use Rattle.tiff_value.specs.lemmas.ColorTypes.{are_color_types}
use Rattle.tiff_ifd.specs.lemmas.Fitted.{all_fit}
use Rattle.tiff_page.specs.Checks.{format_from, depth_from}
use Rattle.tiff_encode.specs.Machine.{OpenImage}
use Rattle.tiff_encode.specs.Chunks.{all_samples}
use Rattle.tiff_encode.specs.Calls.{extended_by_first}
use Rattle.tiff_encode.specs.Held.{IsWholeImage}
use Rattle.tiff_encode.proofs.Alike.{repeated_is}
use Rattle.tiff_encode.proofs.PageTold.Values.{AllBelow}

-- ---- the samples of a color type

-- All samples of a color have the same depth and the same sample format, which is a named one.
pub record AreAlike (c : ColorTypeRecord) : Type 0 where
  pub more : ℕ
  pub depth : ℕ
  pub format : SampleFormat
  pub bits : c.bits ≡ replicate (suc more) depth
  pub formats : c.formats ≡ replicate (suc more) format
  pub some : 0 < depth
  pub few : depth < 2 ^ 8
  pub named : kinds.format_of (format_number format) ≡ format
  pub small : format_number format < 2 ^ 16

-- a sample has at least one bit, and fewer than 256
some_bits : (name : ColorTypeName) → 0 < depth_of name
some_bits color.Gray8 = lit< tt
some_bits name = lit< tt

few_bits : (name : ColorTypeName) → depth_of name < 2 ^ 8
few_bits color.Gray8 = lit< tt
few_bits name = lit< tt

-- the sample format of a field type is a named one, and its number fits in two bytes
named_format : (type : «Type»)
    → kinds.format_of (format_number (format_of_type type)) ≡ format_of_type type
unfolding kinds.format_of
named_format field.BYTE = refl
named_format type = refl

small_format : (type : «Type») → format_number (format_of_type type) < 2 ^ 16
small_format field.BYTE = lit< tt
small_format type = lit< tt

-- the samples of each named color type are alike
pub named_alike : (name : ColorTypeName) → AreAlike (color_type name)
unfolding color_type
named_alike name =
    let f : Family = (family_and_type name).0 in
    let type : «Type» = (family_and_type name).1 in
    let bits : ℕ = depth_of name in
    let count : count_of f ≡ suc (count_of f - 1) =
    omega (arith, (are_color_types name).some, length-replicate (count_of f) bits) in
    record {
      more = count_of f - 1;
      depth = bits;
      format = format_of_type type;
      bits = ap (λ k. replicate k bits) count;
      formats = ap (λ k. replicate k (format_of_type type)) count;
      some = some_bits name;
      few = few_bits name;
      named = named_format type;
      small = small_format type;
    }

-- ---- equal numbers

-- mapping a repeated value repeats the mapped value
map_replicate : {A B : Type 0} (g : A → B) (k : ℕ) (x : A)
    → map g (replicate k x) ≡ replicate k (g x)
map_replicate g zero x = refl
map_replicate g (suc k) x = ap (λ xs. g x ∷ xs) (map_replicate g k x)

-- the depths of a color's samples, extended by some more
pub bits_repeated : (c : ColorTypeRecord) (a : AreAlike c) (e : ℕ)
    → extended_by_first c.bits e ≡ replicate (suc (a.more + e)) a.depth
bits_repeated c a e = ap (λ bs. extended_by_first bs e) a.bits ∙ repeated_is a.more e a.depth

-- the format numbers of a color's samples, extended by some more
pub formats_repeated : (c : ColorTypeRecord) (a : AreAlike c) (e : ℕ)
    → map format_number (extended_by_first c.formats e)
    ≡ replicate (suc (a.more + e)) (format_number a.format)
formats_repeated c a e =
    ap (λ fs. map format_number (extended_by_first fs e)) a.formats
    ∙ ap (map format_number) (repeated_is a.more e a.format)
    ∙ map_replicate format_number (suc (a.more + e)) a.format

-- each number of a repeated list is the first
all_same : (k x : ℕ) → list_all (λ m. m == x) (replicate k x) ≡ true
all_same zero x = refl
all_same (suc k) x = rw (eq-eqb x x refl) (all_same k x)

-- each number of a repeated list is below a limit
all_below : (k x limit i : ℕ) → x < limit → get_or (replicate k x) i 0 < limit
all_below zero x limit i h = omega (arith, h)
all_below (suc k) x limit zero h = h
all_below (suc k) x limit (suc i) h = all_below k x limit i h

-- a short list of one small number is short and small
pub same_few : (k x : ℕ) (ns : List ℕ) → ns ≡ replicate k x → k < 2 ^ 16 → x < 2 ^ 16
    → AllBelow (2 ^ 16) ns × (length ns < 2 ^ 32)
same_few k x ns e few small =
    let n : length ns ≡ k = ap length e ∙ length-replicate k x in
    (subst (AllBelow (2 ^ 16)) (sym e) (λ j. all_below k x (2 ^ 16) j small), omega (arith, n, few))

-- one sample format for all samples
pub format_same : (k : ℕ) (format : SampleFormat) → kinds.format_of (format_number format) ≡ format
    → format_number format < 2 ^ 16
    → format_from (Some (replicate (suc k) (format_number format))) ≡ Ok format
format_same k format named small =
    let x : ℕ = format_number format in
    rw (all_fit tag.SampleFormat (2 ^ 16) (replicate (suc k) x) (λ i. all_below (suc k) x (2 ^ 16) i small))
    (rw (all_same (suc k) x) (ap (λ y. Ok y) named))

-- one depth for all samples
pub depth_same : (k depth samples : ℕ) → 0 < depth → depth < 2 ^ 8 → suc k ≡ samples
    → depth_from samples (Some (replicate (suc k) depth)) ≡ Ok depth
depth_same k depth samples p q s =
    rw (all_fit tag.BitsPerSample (2 ^ 8) (replicate (suc k) depth) (λ i. all_below (suc k) depth (2 ^ 8) i q))
    (rw (
      eq-eqb (length (replicate (suc k) depth)) samples (length-replicate (suc k) depth ∙ s),
      all_same (suc k) depth,
      ne_eqb depth 0 (λ e. omega (arith, e, p)),
    ) refl)

-- ---- the samples of an image

-- the samples of an image's color are alike
pub image_alike : (kind : FileKind) (i : OpenImage) → IsWholeImage kind i → AreAlike i.color
image_alike kind i w = subst AreAlike (sym w.color) (named_alike w.name)

-- the number of samples of a pixel
pub image_samples : (kind : FileKind) (i : OpenImage) (w : IsWholeImage kind i)
    → suc ((image_alike kind i w).more + length i.extra) ≡ all_samples i
image_samples kind i w =
    let a = image_alike kind i w in
    let b : length i.color.bits ≡ suc a.more =
    ap length a.bits ∙ length-replicate (suc a.more) a.depth in
    omega (arith, b)
