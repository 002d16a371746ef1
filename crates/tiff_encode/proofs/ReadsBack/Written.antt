-- A page that an encoder writes for an image has a form that the decoder reads.
use Rattle.std.proofs.Common.{◌≡◌, ℕ, ◌+◌, ◌*◌, ◌/◌, ◌%◌, ◌<◌, ◌⊎◌, length, Bool, true, false, cond, get_or, Result, Ok, Err, refl, ap, sym, ◌∙◌, subst, inl, inr, arith}
use Rattle.std.specs.Prelude.{◌==◌, ◌&&◌, nat_lt, slice_index}
use Rattle.std.proofs.lemmas.Bool.{lt-ltb, ltb-true, ne_eqb}
use Rattle.std.proofs.lemmas.List.{ext_get_or}
use Rattle.std.proofs.lemmas.List.FromFn.{length-map-range_with_len, get_or-map-range_with_len}
use Rattle.std.proofs.lemmas.Nat.{div-add-mod'}
use Rattle.tiff_base.specs.declared.color.ColorType.{ColorType}
use Rattle.tiff_base.specs.declared.color.ColorType.TheVariants.{Gray, RGB, RGBA, CMYK, CMYKA, YCbCr, Multiband}
use Rattle.tiff_base.specs.declared.color.ChunkType.TheVariants.{Strip}
use Rattle.tiff_base.specs.declared.error.TiffError.{TiffError}
use Rattle.tiff_base.specs.declared.error.TiffError.TheVariants.{UnsupportedError}
use Rattle.tiff_base.specs.declared.error.TiffUnsupportedError.TheVariants.{UnsupportedColorType}
use Rattle.tiff_base.specs.declared.tags.CompressionMethod.{CompressionMethod}
use Rattle.tiff_base.specs.declared.tags.CompressionMethod.TheVariants as method
use Rattle.tiff_base.specs.declared.tags.PhotometricInterpretation.{PhotometricInterpretation}
use Rattle.tiff_base.specs.declared.tags.Predictor.{Predictor}
use Rattle.tiff_base.specs.declared.tags.Predictor.TheVariants as predictor
use Rattle.tiff_base.specs.declared.tags.SampleFormat.{SampleFormat}
use Rattle.tiff_base.specs.declared.tags.SampleFormat.TheVariants.{Uint, Int, IEEEFP, Void, Unknown}
use Rattle.tiff_base.specs.declared.tags.«Type».{«Type»}
use Rattle.tiff_value.specs.declared.encoder.colortype.ColorTypeName.{ColorTypeName}
use Rattle.tiff_value.specs.declared.encoder.colortype.ColorTypeName.TheVariants as color
use Rattle.tiff_value.specs.ColorType.{ColorTypeRecord, first_bits, is_packed}
use Rattle.tiff_value.specs.ColorTypes.{Family, meaning_of, format_of_type, family_and_type, depth_of, color_type}
use Rattle.tiff_value.specs.ColorTypes as family
use Rattle.tiff_page.specs.declared.layout.DecodingSampleType.{DecodingSampleType}
use Rattle.tiff_page.specs.Page.{PageRecord}
use Rattle.tiff_page.specs.Layout.{first_is_alpha, photometric, no_color, color_from, color_of, whole_chunks, whole_chroma, sample_type_from, sample_type_of}
use Rattle.tiff_page.specs.Methods.{method_fault}
use Rattle.tiff_page.specs.PixelFault.{is_byte_multiple, is_supported_color, is_gray, refuse_predictor, depth_fault, is_number, fault_of_predictor, predictor_fault, white_from, inversion_fault}
use Rattle.tiff_page.specs.Pixels.{tabulate}
use Rattle.tiff_page.specs.lemmas.Rows.{each_same}
use Rattle.tiff_page.specs.lemmas.Planes.{given_if}
use Rattle.tiff_encode.specs.Machine.{OpenImage}
use Rattle.tiff_encode.specs.Chunks.{all_samples, subsampling_of, pixels_across, shown_page}
use Rattle.tiff_encode.specs.Shows.{shown_columns}
use Rattle.tiff_encode.specs.Open.{IsOpen}
use Rattle.tiff_encode.specs.ReadsBack.{column_samples, IsReadable, WrittenReadsBack, ShownInOrder}
use Rattle.tiff_page.specs.Counts.{parts}
use Rattle.tiff_encode.specs.lemmas.ImageState.{one_part}
use Rattle.tiff_encode.specs.lemmas.Samples.{some_method}
use Rattle.tiff_encode.specs.lemmas.Shown.Color.{IsOf, is_of_family, first_of, IsColored, colored}
use Rattle.tiff_encode.proofs.Shown.Packed.{plain_depth, packed_as, packed_color}
use Rattle.tiff_encode.proofs.ReadsBack.Entries.{reads_back}

-- ---- the sample type

-- samples of each color type have a sample type
type_of_numbers : (name : ColorTypeName)
    → (t : DecodingSampleType) × (sample_type_from (format_of_type (family_and_type name).1) (depth_of name) ≡ Ok t)
type_of_numbers color.Gray8 = (_, refl)
type_of_numbers name = (_, refl)

-- each named color type has a sample type
typed : (name : ColorTypeName)
    → (t : DecodingSampleType) × (sample_type_from (get_or (color_type name).formats 0 Void) (get_or (color_type name).bits 0 0) ≡ Ok t)
unfolding color_type
typed name =
    let f : Family = (family_and_type name).0 in
    let type : «Type» = (family_and_type name).1 in
    let there = type_of_numbers name in (
      there.0,
      ap (λ (format : SampleFormat). sample_type_from format (get_or (color_type name).bits 0 0))
          (first_of f (format_of_type type) Void)
          ∙ ap (λ (depth : ℕ). sample_type_from (format_of_type type) depth) (first_of f (depth_of name) 0)
          ∙ there.1,
    )

-- samples of a sample type are numbers
numbered : (f : SampleFormat) (d : ℕ) (t : DecodingSampleType) → sample_type_from f d ≡ Ok t
    → is_number f ≡ true
numbered Uint d t e = refl
numbered Int d t e = refl
numbered IEEEFP d t e = refl
numbered Void d t e = absurd cc
numbered (Unknown k) d t e = absurd cc

-- ---- the color

-- the color is supported, and its chroma is not subsampled
abbrev IsTaken : PageRecord → Result ColorType TiffError → Type 0
IsTaken p (Ok c) = (is_supported_color c ≡ true) × (whole_chroma p c ≡ Ok c)
IsTaken p (Err e) = Unit {0}

module _ (p : PageRecord) where
  none_taken : IsTaken p (no_color p)
  unfolding no_color
  none_taken = tt

  -- the decoder supports a color that a test chooses, if it supports each choice
  some_taken : (k : ℕ) (x y : ColorType) (other : Result ColorType TiffError) → IsTaken p (Ok x)
      → IsTaken p (Ok y) → IsTaken p other
      → IsTaken p (cond (photometric p == k) (Ok (cond (first_is_alpha p.extra) x y)) other)
  some_taken k x y other a b c =
      given_if (IsTaken p) (photometric p == k) (Ok (cond (first_is_alpha p.extra) x y)) other
      (given_if (λ z. IsTaken p (Ok z)) (first_is_alpha p.extra) x y a b) c

  one_taken : (k : ℕ) (x : ColorType) → IsTaken p (Ok x)
      → IsTaken p (cond (photometric p == k) (Ok x) (no_color p))
  one_taken k x a = given_if (IsTaken p) (photometric p == k) (Ok x) (no_color p) a none_taken

  rgb_taken : IsTaken p (color_from (meaning_of family.RGB) p)
  rgb_taken =
      some_taken 3 (RGBA p.depth) (RGB p.depth) (cond (photometric p == 4) (Ok (RGBA p.depth)) (no_color p)) (refl, refl) (refl, refl) (one_taken 4 (RGBA p.depth) (refl, refl))

  cmyk_taken : IsTaken p (color_from (meaning_of family.CMYK) p)
  cmyk_taken =
      some_taken 4 (CMYKA p.depth) (CMYK p.depth) (cond (photometric p == 5) (Ok (CMYKA p.depth)) (no_color p)) (refl, refl) (refl, refl) (one_taken 5 (CMYKA p.depth) (refl, refl))

  family_taken : (f : Family) → p.subsampling ≡ subsampling_of (meaning_of f)
      → IsTaken p (color_from (meaning_of f) p)
  family_taken family.Gray e =
      given_if (IsTaken p) (p.samples == 1) (Ok (Gray p.depth)) (Ok (Multiband p.depth p.samples))
      (refl, refl) (refl, refl)
  family_taken family.RGB e = rgb_taken
  family_taken family.RGBA e = rgb_taken
  family_taken family.CMYK e = cmyk_taken
  family_taken family.CMYKA e = cmyk_taken
  family_taken family.YCbCr e = one_taken 3 (YCbCr p.depth) (refl, rw e refl)

  -- no color of a family is inverted
  family_upright : (f : Family) (c : ColorType) → white_from (meaning_of f) p c ≡ Ok tt
  family_upright family.Gray c = refl
  family_upright f c = refl

  -- the decoder supports the predictors that the encoder writes
  undone : (q : Predictor) (c : ColorType) → (q ≡ predictor.None) ⊎ (q ≡ predictor.Horizontal)
      → is_number p.format ≡ true → fault_of_predictor q p c ≡ Ok tt
  undone q c way e =
      let P : Predictor → Type 0 = λ r. fault_of_predictor r p c ≡ Ok tt in
      elim way as (λ _. P q) [
        | inl h ↦ subst P (sym h) refl
        | inr h ↦ subst P (sym h) (rw e refl)
      ]

-- a depth of less than a byte isn't one of whole bytes
narrow_depth : (d : ℕ) → d < 8 → is_byte_multiple d ≡ false
narrow_depth d l =
    rw (
      ne_eqb d 8 (λ q. omega (arith, l, q)),
      ne_eqb d 16 (λ q. omega (arith, l, q)),
      ne_eqb d 32 (λ q. omega (arith, l, q)),
      ne_eqb d 64 (λ q. omega (arith, l, q)),
    ) refl

unpacked : (m : CompressionMethod) → (m ≡ method.None) ⊎ (m ≡ method.PackBits)
    → method_fault m ≡ Ok tt
unpacked m way =
    let P : CompressionMethod → Type 0 = λ r. method_fault r ≡ Ok tt in
    elim way as (λ _. P m) [
      | inl h ↦ subst P (sym h) refl
      | inr h ↦ subst P (sym h) refl
    ]

-- ---- an image and a page of it, with its chunks at any offsets
module _ (i : OpenImage) (w : IsOpen i) (p : PageRecord)
    (same : p ≡ record (shown_page i) { offsets = p.offsets; byte_counts = p.byte_counts }) where
  is_of : IsOf i.color i.size
  is_of = is_of_family i w.name w.color w.size

  tinted : IsColored i
  tinted = colored i is_of

  interpretation_is : p.interpretation ≡ meaning_of is_of.family
  interpretation_is = ap (λ (q : PageRecord). q.interpretation) same ∙ is_of.interpretation

  subsampling_is : p.subsampling ≡ subsampling_of (meaning_of is_of.family)
  subsampling_is =
      ap (λ (q : PageRecord). q.subsampling) same ∙ ap subsampling_of is_of.interpretation

  pub type_there : (t : DecodingSampleType) × (sample_type_of p ≡ Ok t)
  unfolding sample_type_of
  type_there =
      let t = typed w.name in (
        t.0,
        ap (λ (q : PageRecord). sample_type_from q.format q.depth) same
            ∙ ap (λ (c : ColorTypeRecord). sample_type_from (get_or c.formats 0 Void) (get_or c.bits 0 0)) w.color
            ∙ t.1,
      )

  -- packed pixels have strips and no predictor
  packed_so : p.depth < 8 → is_packed i.color ≡ true
  packed_so l =
      lt-ltb (first_bits i.color) 8 (subst (λ n. n < 8) (ap (λ (q : PageRecord). q.depth) same) l)

  narrow_taken : (c : ColorType) → color_of p ≡ Ok c → p.depth < 8 → depth_fault p c ≡ Ok tt
  unfolding depth_fault
  narrow_taken c e l =
      let gray = packed_color i is_of w.wide w.form w.pixels (packed_so l) p c same e in
      let none : p.predictor ≡ predictor.None =
      ap (λ (q : PageRecord). q.predictor) same ∙ (w.pixels.plain (packed_so l)).1.1 in
      let whole : is_byte_multiple p.depth ≡ false = narrow_depth p.depth l in
      let test : nat_lt p.depth 8 ≡ true = lt-ltb p.depth 8 l in
      let P : ColorType → Predictor → Type 0 =
      λ x q. cond (is_byte_multiple p.depth && is_supported_color x) (Ok tt)
      (cond (nat_lt p.depth 8 && is_gray x) (refuse_predictor q x) (Err (UnsupportedError (UnsupportedColorType x)))) ≡ Ok tt in
      subst (λ x. P x p.predictor) (sym gray) (subst (λ q. P (Gray (first_bits i.color)) q) (sym none) (rw (whole, test) refl))

  narrow_aligned : (c : ColorType) → p.depth < 8 → whole_chunks p c p.width ≡ Ok c
  narrow_aligned c l =
      let strip : i.form.chunk_type ≡ Strip = (w.pixels.plain (packed_so l)).0 in
      let wide : p.width ≡ i.pixels = ap (λ (q : PageRecord). q.width) same in
      let chunk : p.chunk_width ≡ i.pixels =
      ap (λ (q : PageRecord). q.chunk_width) same
      ∙ ap (λ t. pixels_across t i.pixels i.form.chunk_width) strip in
      let one : parts p.width p.chunk_width ≡ 1 =
      (λ t. parts (wide t) (chunk t))
      ∙ one_part i.pixels i.pixels w.pixels.some.0 (omega arith) in
      let few : nat_lt 1 (parts p.width p.chunk_width) ≡ false = ap (λ n. nat_lt 1 n) one in
      rw few refl

  -- the depth of the page
  pub depth_there : ((shown_page i).depth ≡ 8 * i.size)
      ⊎ (((shown_page i).depth < 8) × (i.size ≡ 1))
  depth_there =
      let P : Bool → Type 0 =
      λ b. is_packed i.color ≡ b → ((shown_page i).depth ≡ 8 * i.size)
      ⊎ (((shown_page i).depth < 8) × (i.size ≡ 1)) in
      elim (is_packed i.color) as P [
        | true ↦ λ y. inr (ltb-true (first_bits i.color) 8 y, (packed_as i is_of w.wide w.form w.pixels y).1.0)
        | false ↦ λ n. inl (plain_depth i is_of w.wide w.form w.pixels n)
      ] refl

  pub readable : (c : ColorType) → color_of p ≡ Ok c → IsReadable p c
  unfolding color_of sample_type_of predictor_fault inversion_fault
  readable c e =
      let f : Family = is_of.family in
      let from : color_from (meaning_of f) p ≡ Ok c =
      ap (λ (m : PhotometricInterpretation). color_from m p) (sym interpretation_is) ∙ e in
      let taken : IsTaken p (Ok c) = subst (IsTaken p) from (family_taken p f subsampling_is) in
      let way : (p.predictor ≡ predictor.None) ⊎ (p.predictor ≡ predictor.Horizontal) =
      subst (λ (q : Predictor). (q ≡ predictor.None)
      ⊎ (q ≡ predictor.Horizontal)) (sym (ap (λ (q : PageRecord). q.predictor) same)) w.predicted_by in
      let packed : (p.method ≡ method.None) ⊎ (p.method ≡ method.PackBits) =
      subst (λ (q : CompressionMethod). (q ≡ method.None)
      ⊎ (q ≡ method.PackBits)) (sym (ap (λ (q : PageRecord). q.method) same))
      (some_method i.compression) in
      record {
        plain = taken.0;
        predictor =
            undone p p.predictor c way (numbered p.format p.depth type_there.0 type_there.1);
        packed_by = unpacked p.method packed;
        upright =
            ap (λ (m : PhotometricInterpretation). white_from m p c) interpretation_is
            ∙ family_upright p f c;
        chroma = taken.1;
        narrow = λ l. (narrow_taken c e l, narrow_aligned c l);
      }

pub written_reads_back : WrittenReadsBack
written_reads_back kind file offset i sample_at limits w small s l =
    let c = tinted i w s.page s.is_image in
    let t = type_there i w s.page s.is_image in (
      t.0,
      (
        t.1,
        reads_back kind file offset (record { page = shown_page i; sample_at = sample_at }) i.size limits t.0 s
            (record { is_size = c.is_size; depth = depth_there i w s.page s.is_image; small = small }) t.1
            (readable i w s.page s.is_image s.color s.is_color) l,
      ),
    )

-- ---- an image that a call writes as a whole

-- the page shows the samples of an image in the order in which the call receives them
pub shown_in_order : ShownInOrder
shown_in_order i samples p color wide all long =
    let s : ℕ = column_samples p color in
    let c : ℕ = shown_columns p color in
    let n : ℕ = p.height * c * s in
    let at : ℕ → ℕ =
    λ k. slice_index samples ((k / s / c * i.width + k / s % c) * all_samples i + k % s) in
    let offset : (k : ℕ) → (k / s / c * i.width + k / s % c) * all_samples i + k % s ≡ k = λ k.
    let a : (k / s / c * c + k / s % c) * s ≡ k / s * s =
    ap (λ (m : ℕ). m * s) (div-add-mod' (k / s) c) in
    let b : (k / s / c * i.width + k / s % c) * all_samples i ≡ (k / s / c * c + k / s % c) * s =
    λ t. (k / s / c * sym wide t + k / s % c) * sym all t in
    omega (arith, a, b, div-add-mod' k s) in
    let count : length samples ≡ n = long ∙ ap (λ (m : ℕ). p.height * c * m) (sym all) in
    each_same n at (λ k. slice_index samples k) (λ k b. ap (λ (m : ℕ). slice_index samples m) (offset k))
    ∙ ext_get_or 0 (tabulate n (λ k. slice_index samples k)) samples
    (length-map-range_with_len (λ k. slice_index samples k) 0 n ∙ sym count)
    (λ k b.
    let within : k < n =
    subst (λ (m : ℕ). k < m) (length-map-range_with_len (λ j. slice_index samples j) 0 n) b in
    get_or-map-range_with_len (λ j. slice_index samples j) 0 n k k 0 within (omega arith))
