-- An image that a call writes as a whole is read back with the same samples.
use Rattle.std.proofs.Common.{◌≡◌, ℕ, ◌+◌, ◌*◌, Bool, true, false, cond, List, [], length, Ok, refl, ap, sym, ◌∙◌, subst, arith}
use Rattle.std.specs.Prelude.{nat_lt}
use Rattle.std.proofs.lemmas.List.{length-replicate}
use Rattle.tiff_base.specs.declared.color.ColorType.{ColorType}
use Rattle.tiff_base.specs.declared.color.ColorType.TheVariants.{Gray, RGB, RGBA, CMYK, CMYKA, YCbCr}
use Rattle.tiff_base.specs.declared.tags.ExtraSamples.{ExtraSamples}
use Rattle.tiff_base.specs.declared.tags.PhotometricInterpretation.{PhotometricInterpretation}
use Rattle.tiff_base.specs.declared.tags.PlanarConfiguration.{PlanarConfiguration}
use Rattle.tiff_base.specs.declared.tags.PlanarConfiguration.TheVariants.{Chunky}
use Rattle.tiff_base.specs.Color.{num_samples}
use Rattle.tiff_value.specs.ColorType.{columns_of}
use Rattle.tiff_value.specs.ColorTypes.{Family, meaning_of, count_of}
use Rattle.tiff_value.specs.ColorTypes as family
use Rattle.tiff_page.specs.Page.{PageRecord}
use Rattle.tiff_page.specs.Layout.{color_from, color_of, samples_in_chunk}
use Rattle.tiff_encode.specs.Machine.{OpenImage}
use Rattle.tiff_encode.specs.Chunks.{all_samples, shown_page}
use Rattle.tiff_encode.specs.Shows.{shown_columns}
use Rattle.tiff_encode.specs.Open.{IsOpen}
use Rattle.tiff_encode.specs.ImageData.{AreNumbers, image_of_samples}
use Rattle.tiff_encode.specs.ReadsBack.{column_samples, AllShown, HasSamplesOf, ShownIsRead, WrittenIsRead}
use Rattle.tiff_encode.proofs.Data.Begun.{new_is}
use Rattle.tiff_encode.proofs.ReadsBack.Entries.{reads_shown}
use Rattle.tiff_encode.proofs.ReadsBack.Written.{depth_there, shown_in_order}
use Rattle.tiff_encode.specs.lemmas.Shown.Color.{IsOf, is_of_family, IsColored, colored}
use Rattle.tiff_encode.proofs.Shown.Packed.{columns_shown, one_sample}
use Rattle.tiff_base.specs.lemmas.Slices.{ok_inj}

-- ---- a color with all samples

module _ (p : PageRecord) where
  -- a page of a family without extra samples has a color with the same number of samples
  counted : (f : Family) (color : ColorType)
      → color_from (meaning_of f) (record p { samples = count_of f; extra = [] }) ≡ Ok color
      → num_samples color ≡ count_of f
  counted family.Gray color e = ap num_samples (sym (ok_inj (Gray p.depth) color e))
  counted family.RGB color e = ap num_samples (sym (ok_inj (RGB p.depth) color e))
  counted family.RGBA color e = ap num_samples (sym (ok_inj (RGBA p.depth) color e))
  counted family.CMYK color e = ap num_samples (sym (ok_inj (CMYK p.depth) color e))
  counted family.CMYKA color e = ap num_samples (sym (ok_inj (CMYKA p.depth) color e))
  counted family.YCbCr color e = ap num_samples (sym (ok_inj (YCbCr p.depth) color e))

  all_counted : (f : Family) (color : ColorType) → p.samples ≡ count_of f → p.extra ≡ []
      → color_from (meaning_of f) p ≡ Ok color
      → num_samples color ≡ count_of f
  all_counted f color as_many none e =
      let P : ℕ → Type 0 =
      λ n. color_from (meaning_of f) (record p { samples = n; extra = [] }) ≡ Ok color in
      let Q : List ExtraSamples → Type 0 =
      λ xs. color_from (meaning_of f) (record p { extra = xs }) ≡ Ok color in
      counted f color (subst P as_many (subst Q none e))

-- the color type of an image is of a family
is_of : (i : OpenImage) → IsOpen i → IsOf i.color i.size
is_of i w = is_of_family i w.name w.color w.size

-- without extra samples, a color has as many samples as the image
as_many_samples : (i : OpenImage) (o : IsOf i.color i.size) → i.extra ≡ []
    → all_samples i ≡ count_of o.family
as_many_samples i o none =
    let bits : length i.color.bits ≡ count_of o.family =
    ap (λ xs. length xs) o.bits ∙ length-replicate (count_of o.family) o.depth in
    let extra : length i.extra ≡ 0 = ap (λ xs. length xs) none in
    omega (arith, bits, extra)

pub all_shown : AllShown
unfolding color_of
all_shown i p color w none chunky same is_color =
    let o = is_of i w in
    let planar : p.planar ≡ Chunky = ap (λ (q : PageRecord). q.planar) same ∙ chunky in
    let samples : p.samples ≡ all_samples i = ap (λ (q : PageRecord). q.samples) same in
    let meaning : p.interpretation ≡ meaning_of o.family =
    ap (λ (q : PageRecord). q.interpretation) same ∙ o.interpretation in
    let from : color_from (meaning_of o.family) p ≡ Ok color =
    ap (λ (m : PhotometricInterpretation). color_from m p) (sym meaning) ∙ is_color in
    let count : num_samples color ≡ count_of o.family =
    all_counted p o.family color (samples ∙ as_many_samples i o none)
    (ap (λ (q : PageRecord). q.extra) same ∙ none) from in
    let P : PlanarConfiguration → Type 0 = λ q. samples_in_chunk q color ≡ all_samples i in
    subst P (sym planar) (count ∙ sym (as_many_samples i o none))

-- a column of the page has all samples of the image
column_shown : (i : OpenImage) (p : PageRecord) (color : ColorType) → (w : IsOpen i) → i.extra ≡ []
    → p ≡ record (shown_page i) { offsets = p.offsets; byte_counts = p.byte_counts }
    → samples_in_chunk p.planar color ≡ all_samples i → column_samples p color ≡ all_samples i
column_shown i p color w none same all =
    let P : Bool → Type 0 =
    λ b. nat_lt p.depth 8 ≡ b → cond b 1 (samples_in_chunk p.planar color) ≡ all_samples i in
    elim (nat_lt p.depth 8) as P [
      | true ↦ λ y.
          sym (one_sample i (is_of i w) w.wide w.form w.pixels (ap (λ (q : PageRecord). nat_lt q.depth 8) (sym same) ∙ y))
      | false ↦ λ n. all
    ] refl

-- ---- the shown samples and the written ones

pub shown_is_read : ShownIsRead
shown_is_read kind file offset i samples limits d s w none chunky small whole read =
    let t : IsColored i = colored i (is_of i w) in
    let has : HasSamplesOf (image_of_samples i samples) i.size =
    record { is_size = t.is_size; depth = depth_there i w (shown_page i) refl; small = λ x y k. small ((y * i.width + x) * all_samples i + k) } in
    let wide : shown_columns s.page s.color ≡ i.width =
    columns_shown i (is_of i w) w.wide w.form w.pixels s.page s.color s.is_image s.is_color in
    let high : s.page.height ≡ i.height = ap (λ (q : PageRecord). q.height) s.is_image in
    let long : length samples ≡ s.page.height * shown_columns s.page s.color * all_samples i =
    whole ∙ (λ t. sym high t * sym wide t * all_samples i) in
    (reads_shown kind file offset (image_of_samples i samples) i.size limits d s has read).0
    ∙ shown_in_order i samples s.page s.color wide
    (column_shown i s.page s.color w none s.is_image (all_shown i s.page s.color w none chunky s.is_image s.is_color)) long

pub written_is_read : WrittenIsRead
written_is_read color size width height samples old new m l name offset limits d s c z small whole read =
    let i = l.image in
    let told = new_is color size width height old i l.begun.answer in
    let none : i.extra ≡ [] = sym (ap (λ (j : OpenImage). j.extra) told.1.0) in
    let chunky : i.form.planar ≡ Chunky = sym (ap (λ (j : OpenImage). j.form.planar) told.1.0) in
    let wide : i.width ≡ columns_of color width = sym (ap (λ (j : OpenImage). j.width) told.1.0) in
    let high : i.height ≡ height = sym (ap (λ (j : OpenImage). j.height) told.1.0) in
    let bits : length i.color.bits ≡ length color.bits =
    sym (ap (λ (j : OpenImage). length j.color.bits) told.1.0) in
    let extra : length i.extra ≡ 0 = ap (λ xs. length xs) none in
    let all : all_samples i ≡ length color.bits = omega (arith, bits, extra) in
    let size_is : i.size ≡ size = sym (ap (λ (j : OpenImage). j.size) told.1.0) in
    let long : length samples ≡ i.height * i.width * all_samples i =
    whole ∙ (λ t. sym high t * sym wide t * sym all t) in
    shown_is_read old.kind new.bytes offset i samples limits d s (l.open_so name c z) none chunky
    (subst (λ k. AreNumbers k samples) (sym size_is) small) long read
