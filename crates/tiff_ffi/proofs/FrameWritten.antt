-- The file of an image of zeros makes the file of each image of as many samples: its frame around
-- their bytes.
use Rattle.std.proofs.Common.{◌≡◌, ℕ, ◌*◌, ◌^◌, ◌<◌, inl, inr, List, ◌++◌, get_or, Fits, w8, length, take, drop, None, Ok, refl, sym, ap, subst, ◌∙◌, arith, length-append}
use Rattle.std.proofs.Math.Seq.{take-append_seam, drop-append_seam}
use Rattle.std.proofs.Math.Nat.{mul-mod_left}
use Rattle.std.proofs.lemmas.List.{length-replicate}
use Rattle.std.specs.Prelude.{◌%◌}
use Rattle.std.specs.List.{flat_map}
use Rattle.tiff_encode.specs.declared.encoder.settings.Compression.TheVariants.{Uncompressed}
use Rattle.tiff_base.specs.Number.{le}
use Rattle.tiff_base.specs.SourceAndSink.{AreOctets}
use Rattle.tiff_value.specs.ColorType.{ColorTypeRecord, columns_of}
use Rattle.tiff_value.specs.ColorTypes.{color_type, inner_size}
use Rattle.tiff_page.specs.Pixels.{numbers_in}
use Rattle.tiff_page.specs.Row.{IsSize}
use Rattle.tiff_page.specs.lemmas.Rows.{some_size}
use Rattle.tiff_value.specs.Model.{header_model}
use Rattle.tiff_encode.specs.Machine.{FileState, OpenImage}
use Rattle.tiff_encode.specs.Causes.{end_of, image_samples}
use Rattle.tiff_encode.specs.Calls.{image_in}
use Rattle.tiff_encode.specs.ImageData.{AreNumbers, IsShortFile}
use Rattle.tiff_encode.specs.Open.{IsOpen}
use Rattle.tiff_encode.specs.Shows.{ShowsFirst}
use Rattle.tiff_value.specs.lemmas.File.Header.{header_stands}
use Rattle.tiff_page.specs.lemmas.WrittenNumbers.{length_written}
use Rattle.tiff_encode.specs.lemmas.NumbersIn.{numbers_small, whole_numbers}
use Rattle.tiff_encode.specs.lemmas.Shown.Color.{of_family}
use Rattle.tiff_encode.specs.lemmas.Shown.Parts.{parts_show}
use Rattle.tiff_encode.proofs.Open.Begun.{begins_open}
use Rattle.tiff_encode.proofs.Data.Begun.{new_adding, new_is}
use Rattle.tiff_encode.proofs.Data.Image.{image_leaves_by}
use Rattle.tiff_encode.proofs.Data.Leaves as leaves
use Rattle.tiff_encode.proofs.Data.Leaves.{data_written}
use Rattle.tiff_encode.proofs.Data.Written.{data_done}
use Rattle.tiff_ffi.specs.declared.frame.Frame.{Frame}
use Rattle.tiff_ffi.specs.declared.writer.Settings.{Settings}
use Rattle.tiff_ffi.specs.Frame.{framed, IsFrameOf}
use Rattle.tiff_ffi.specs.Writer.{AreKept, IsWritten, WritesBytes, WritesImageFile, file_by, front_len, image_by, samples_from_bytes}
use Rattle.tiff_ffi.specs.Zeros.{WritesZeros, IsNewImage, zeros_of}
use Rattle.tiff_ffi.proofs.Framed.{IsFramed, IsKept, chain_of, framed_alike, samples_fault, samples_written, told_given}
use Rattle.tiff_ffi.proofs.FrameZeros.{begun_new, none_refuses}
use Rattle.tiff_ffi.proofs.BytesBack.{bytes_back}
use Rattle.tiff_ffi.proofs.Writing.{shown, whole_by}

-- Two ways to cut a list into three parts of the same lengths are one.
same_front : (a m c x n z : List ℕ) → a ++ (m ++ c) ≡ x ++ (n ++ z) → length a ≡ length x → a ≡ x
same_front a m c x n z h l =
    sym (take-append_seam a (m ++ c)) ∙ (λ j. take (l j) (h j)) ∙ take-append_seam x (n ++ z)

same_rest : (a m c x n z : List ℕ) → a ++ (m ++ c) ≡ x ++ (n ++ z) → length a ≡ length x
    → m ++ c ≡ n ++ z
same_rest a m c x n z h l =
    sym (drop-append_seam a (m ++ c)) ∙ (λ j. drop (l j) (h j)) ∙ drop-append_seam x (n ++ z)

same_behind : (m c n z : List ℕ) → m ++ c ≡ n ++ z → length m ≡ length n → c ≡ z
same_behind m c n z h l =
    sym (drop-append_seam m c) ∙ (λ j. drop (l j) (h j)) ∙ drop-append_seam n z

module _ (s : Settings) (width height failures : ℕ) (samples : List ℕ) (last : FileState)
    (z : WritesZeros (color_type s.color) (inner_size s.color) width height (file_by s failures) last)
    (wide : width < 2 ^ 32) (tall : height < 2 ^ 32) (few : columns_of (color_type s.color) width * height * length (color_type s.color).bits < 2 ^ 64)
    (kept : IsKept s (columns_of (color_type s.color) width * height * length (color_type s.color).bits) (length samples)) where
  abbrev old : FileState
  old = file_by s failures

  abbrev i : OpenImage
  i = z.image

  abbrev zeros : List ℕ
  zeros = zeros_of i

  plain : old.compression ≡ Uncompressed
  plain = kept.packs

  new : IsNewImage i
  new =
      begun_new s.color (color_type s.color) (inner_size s.color) width height old i refl refl wide tall plain few z.begun.answer

  open_image : IsOpen i
  open_image =
      (begins_open old (header_model s.kind) s.color width height i wide tall z.begun.answer).open_so

  many : length zeros ≡ columns_of (color_type s.color) width * height * length (color_type s.color).bits
  many =
      let n = new_is (color_type s.color) (inner_size s.color) width height old i z.begun.answer in
      let all : image_samples (image_in old n.0 (color_type s.color) (inner_size s.color) width height) ≡ image_samples i = ap (λ j. image_samples j) n.1.0 in
      let e : image_samples (image_in old n.0 (color_type s.color) (inner_size s.color) width height) ≡ columns_of (color_type s.color) width * height * length (color_type s.color).bits = omega arith in
      length-replicate (image_samples i) 0 ∙ sym all ∙ e

  same : length samples ≡ length zeros
  same = kept.whole ∙ sym many

  zeros_kept : IsKept s (columns_of (color_type s.color) width * height * length (color_type s.color).bits) (length zeros)
  zeros_kept = record { packs = kept.packs; differs = kept.differs; whole = many }

  fresh : z.mid.fault ≡ None
  fresh =
      ap (λ f. f.fault) z.begun.state
      ∙ ap (λ f. f.fault) (new_adding (color_type s.color) (inner_size s.color) width height old).next

  zeros_written : leaves.IsWritten i zeros z.mid last
  zeros_written =
      data_written (Unit {0}) i zeros tt z.mid last
      (data_done i zeros (length zeros) refl z.mid z.mid z.then z.last
      (none_refuses i new z.mid (length zeros) fresh (length-replicate (image_samples i) 0)) refl last z.strips z.offsets z.ends)

  abbrev frame_of : IsFramed s width height failures zeros samples same zeros_kept i z.mid last z.begun open_image zeros_written
  frame_of =
      framed_alike s width height failures zeros samples same zeros_kept i z.mid last z.begun open_image zeros_written

  abbrev given : FileState
  given =
      (told_given s width height failures zeros samples same zeros_kept i z.mid last z.begun open_image zeros_written).next

  -- The frame around the bytes of the samples is the file that shows them.
  pub framed_written : (frame : Frame) (contents bytes : List ℕ)
      → AreNumbers (inner_size s.color) samples → flat_map (le (inner_size s.color)) samples ≡ bytes
      → contents ≡ last.bytes → length contents < 2 ^ 63
      → IsFrameOf contents (front_len s.kind) bytes frame
      → WritesImageFile s width height samples (Ok (framed frame))
  framed_written frame contents bytes small are is_told short f =
      let raw : List ℕ = flat_map (le (inner_size s.color)) samples in
      let blank : List ℕ = flat_map (le (inner_size s.color)) zeros in
      let cut : frame.front.items ++ (f.passed ++ frame.behind.items) ≡ frame_of.before
      ++ (blank ++ frame_of.after) = sym f.whole ∙ is_told ∙ frame_of.with_zeros in
      let fronts : length frame.front.items ≡ length frame_of.before =
      f.front_len ∙ sym frame_of.as_long in
      let blanks : length f.passed ≡ length blank =
      f.passed_len ∙ ap (λ (bs : List ℕ). length bs) (sym are)
      ∙ length_written (inner_size s.color) samples ∙ ap (λ n. n * inner_size s.color) same
      ∙ sym (length_written (inner_size s.color) zeros) in
      let front =
      same_front frame.front.items f.passed frame.behind.items frame_of.before blank frame_of.after cut fronts in
      let behind =
      same_behind f.passed frame.behind.items blank frame_of.after
      (same_rest frame.front.items f.passed frame.behind.items frame_of.before blank frame_of.after cut fronts) blanks in
      let file : framed frame ≡ given.bytes =
      (λ j. front j ++ ((f.samples_are ∙ sym are) j ++ behind j)) ∙ sym frame_of.with_samples in
      let raws : length raw ≡ length f.passed =
      ap (λ (bs : List ℕ). length bs) are ∙ sym f.passed_len in
      let end : end_of given ≡ length (framed frame) = ap (λ (bs : List ℕ). length bs) (sym file) in
      let parts : length (framed frame) ≡ length contents =
      (let a = length-append frame.front.items (frame.samples.now ++ frame.behind.items) in
      let b = length-append frame.samples.now frame.behind.items in
      let c = ap (λ (bs : List ℕ). length bs) f.whole in
      let d = length-append frame.front.items (f.passed ++ frame.behind.items) in
      let g = length-append f.passed frame.behind.items in
      let h : length frame.samples.now ≡ length f.passed =
      ap (λ (bs : List ℕ). length bs) f.samples_are ∙ sym f.passed_len in
      omega (arith, a, b, c, d, g, h)) in
      let is_short : IsShortFile given = omega (arith, end, parts, short) in
      let writes =
      samples_written s width height failures zeros samples same zeros_kept i z.mid last z.begun open_image zeros_written in
      let left =
      image_leaves_by parts_show (color_type s.color) (inner_size s.color) width height samples
      (Ok tt) old given (header_model s.kind) wide tall small is_short
      (header_stands s.kind) (inl (chain_of s.kind)) writes in
      let written : IsWritten s width height samples (Ok (framed frame)) = record {
        failures = failures;
        last = given;
        written = writes;
        fault =
            inl (samples_fault s width height failures zeros samples same zeros_kept i z.mid last z.begun open_image zeros_written);
        file = file;
        shows =
            subst (λ (bs : List ℕ). ShowsFirst s.kind bs (image_by s width height samples))
            (sym file) (shown s width height failures samples given left);
      } in
      inr written

-- ---- samples that are bytes

-- The frame around the bytes of an image is the file that shows them.
pub around_written : (s : Settings) (width height failures : ℕ) (bytes : List ℕ)
    (old last : FileState) (color : ColorTypeRecord) (size : ℕ)
    → old ≡ file_by s failures → color ≡ color_type s.color → size ≡ inner_size s.color
    → WritesZeros color size width height old last
    → width < 2 ^ 32 → height < 2 ^ 32
    → AreKept s (columns_of color width * height * length color.bits) size (length bytes)
    → ((k : ℕ) → Fits w8 (get_or bytes k 0))
    → (frame : Frame) (contents : List ℕ) → contents ≡ last.bytes → length contents < 2 ^ 63
    → IsFrameOf contents (front_len s.kind) bytes frame
    → WritesBytes s width height (samples_from_bytes s.color bytes) (Ok (framed frame))
around_written s width height failures bytes old last color size is colored sized z wide tall kept fit frame contents is_told short f =
    let n : ℕ = inner_size s.color in
    let all : ℕ =
    columns_of (color_type s.color) width * height * length (color_type s.color).bits in
    let zeros : WritesZeros (color_type s.color) n width height (file_by s failures) last =
    subst (λ c. WritesZeros c n width height (file_by s failures) last) colored
    (subst (λ k. WritesZeros color k width height (file_by s failures) last) sized (subst (λ (x : FileState). WritesZeros color size width height x last) is z)) in
    let are : AreKept s all n (length bytes) =
    subst (λ c. AreKept s (columns_of c width * height * length c.bits) n (length bytes)) colored
    (subst (λ k. AreKept s (columns_of color width * height * length color.bits) k (length bytes)) sized kept) in
    let is_size : IsSize n = (of_family s.color).is_size in
    let octets : AreOctets bytes = λ k. (let h = fit k in omega (arith, h)) in
    let samples : List ℕ = numbers_in n bytes in
    let none : length bytes % n ≡ 0 = ap (λ k. k % n) are.whole ∙ mul-mod_left all n in
    let many : length samples ≡ all = whole_numbers n all bytes (some_size n is_size) are.whole in
    whole_by s width height bytes (Ok (framed frame)) none
    (framed_written s width height failures samples last zeros wide tall are.few (record { packs = are.packs; differs = are.differs; whole = many }) frame contents bytes
    (numbers_small n bytes is_size octets) (bytes_back s.color n bytes samples refl fit none refl) is_told short f)
