-- A file that an encoder wrote into memory shows its image.
use Rattle.std.proofs.Common.{◌≡◌, ℕ, ◌%◌, ◌<◌, ◌⊎◌, inl, inr, Bool, true, false, List, [], length, get_or, Fits, w8, None, Some, Result, Ok, Err, IfOk, refl, sym, ap, subst, ◌∙◌, lit<}
use Rattle.tiff_base.specs.declared.error.TiffError.{TiffError}
use Rattle.std.specs.Prelude.{◌==◌, if◌then◌else◌}
use Rattle.tiff_base.specs.declared.error.TiffError.TheVariants.{OutOfMemory, UsageError}
use Rattle.tiff_base.specs.declared.error.UsageError.TheVariants.{MismatchedEntryLength}
use Rattle.tiff_base.specs.declared.tags.«Type».{«Type»}
use Rattle.tiff_base.specs.declared.io.SinkFault.TheVariants as sink
use Rattle.tiff_base.specs.declared.tags.FileKind.{FileKind}
use Rattle.tiff_base.specs.declared.tags.FileKind.TheVariants.{Classic, Big}
use Rattle.tiff_decode.specs.NextState.{view_of_result}
use Rattle.tiff_value.specs.ColorType.{ColorTypeRecord}
use Rattle.tiff_value.specs.ColorTypes.{color_type, inner_size, inner_type}
use Rattle.tiff_base.specs.Types.{type_size}
use Rattle.tiff_page.specs.Pixels.{numbers_in}
use Rattle.tiff_encode.specs.JobSamples.{samples_of_type}
use Rattle.tiff_encode.specs.JobValues.{cut_to}
use Rattle.tiff_encode.specs.lemmas.JobSamples.{whole_cut}
use Rattle.tiff_base.specs.lemmas.Slices.{ok_inj}
use Rattle.tiff_value.specs.FileBytes.{header_bytes}
use Rattle.tiff_value.specs.Model.{Model, IsLink, FileContains, header_model}
use Rattle.tiff_encode.specs.Machine.{FileState, begun_file}
use Rattle.tiff_encode.specs.Calls.{with_compression, with_predictor}
use Rattle.tiff_encode.specs.Shows.{ShowsFirst}
use Rattle.tiff_encode.specs.ImageData.{WritesImage, LeavesImage, LeavesNewImage, image_of_samples}
use Rattle.tiff_encode.proofs.Data.Begun.{new_is}
use Rattle.tiff_encode.proofs.Shown.Gray.{first_shown}
use Rattle.tiff_value.specs.lemmas.File.Header.{header_stands}
use Rattle.tiff_ffi.specs.declared.writer.Settings.{Settings}
use Rattle.tiff_ffi.specs.Writer.{IsWritten, WritesImageFile, WritesBytes, file_by, image_by, samples_from_bytes}
use Rattle.tiff_ffi.proofs.Framed.{chain_of}

-- A new encoder over an empty sink has its settings.
pub begun_by : (s : Settings) (failures : ℕ) (contents : List ℕ) (b p c : FileState) → contents ≡ []
    → b ≡ begun_file s.kind contents failures
    → p ≡ with_predictor s.predictor b → c ≡ with_compression s.compression p
    → c ≡ file_by s failures
begun_by s failures contents b p c empty b_is p_is c_is =
    c_is ∙ ap (with_compression s.compression) (p_is
    ∙ ap (with_predictor s.predictor) (b_is ∙ ap (λ t. begun_file s.kind t failures) empty))

-- A header has bytes.
some_header : (kind : FileKind) → 0 < length (header_bytes kind)
some_header Classic = lit< tt
some_header Big = lit< tt

module _ (s : Settings) (width height failures : ℕ) (samples : List ℕ) (last : FileState) where
  abbrev old : FileState
  old = file_by s failures

  -- An image that such an encoder left is shown.
  pub shown : LeavesImage (color_type s.color) (inner_size s.color) width height samples old last
      (header_model s.kind)
      → ShowsFirst s.kind last.bytes (image_by s width height samples)
  shown l =
      let n =
      new_is (color_type s.color) (inner_size s.color) width height old l.image l.begun.answer in
      subst (λ i. ShowsFirst s.kind last.bytes (image_of_samples i samples)) (sym n.1.0)
      (first_shown (color_type s.color) (inner_size s.color) width height samples old last (header_model s.kind) (chain_of s.kind) (some_header s.kind) l s.color refl refl)

  -- what an encoder returns, and what it leaves behind a header
  abbrev Answered : Result (Unit {0}) TiffError → Type 0
  Answered r = WritesImage (color_type s.color) (inner_size s.color) width height samples r old last

  abbrev Left : Result (Unit {0}) TiffError → Type 0
  Left r =
      (m : Model) → FileContains old.kind old.bytes m → IsLink old.kind m old.chain
      → LeavesNewImage (color_type s.color) (inner_size s.color) width height samples r old last m

  left_shown : Left (Ok tt) → ShowsFirst s.kind last.bytes (image_by s width height samples)
  left_shown l = shown (l (header_model s.kind) (header_stands s.kind) (inl (chain_of s.kind)))

-- What an encoder with these settings returns is the file that was written.
module _ (s : Settings) (width height failures : ℕ) (samples : List ℕ) (old last : FileState)
    (color : ColorTypeRecord) (size : ℕ)
    (is : old ≡ file_by s failures) (colored : color ≡ color_type s.color) (sized : size ≡ inner_size s.color)
    (fault : (last.fault ≡ None) ⊎ (last.fault ≡ Some sink.OutOfMemory)) where
  abbrev Answers : Result (Unit {0}) TiffError → Type 0
  Answers r = WritesImage color size width height samples r old last

  answered : (r : Result (Unit {0}) TiffError) → Answers r
      → WritesImage (color_type s.color) (inner_size s.color) width height samples r (file_by s failures) last
  answered r w =
      subst (λ c. WritesImage c (inner_size s.color) width height samples r (file_by s failures) last) colored
      (subst (λ n. WritesImage color n width height samples r (file_by s failures) last) sized
      (subst (λ f. WritesImage color size width height samples r f last) is w))

  abbrev Leaves : Result (Unit {0}) TiffError → Type 0
  Leaves r =
      (m : Model) → FileContains old.kind old.bytes m → IsLink old.kind m old.chain
      → LeavesNewImage color size width height samples r old last m

  left : (r : Result (Unit {0}) TiffError) → Leaves r → Left s width height failures samples last r
  left r l =
      subst (λ c. (m : Model) → FileContains s.kind (file_by s failures).bytes m
      → IsLink s.kind m (file_by s failures).chain → LeavesNewImage c (inner_size s.color) width height samples r (file_by s failures) last m) colored
      (subst (λ n. (m : Model) → FileContains s.kind (file_by s failures).bytes m
      → IsLink s.kind m (file_by s failures).chain → LeavesNewImage color n width height samples r (file_by s failures) last m) sized
      (subst (λ (f : FileState). (m : Model) → FileContains f.kind f.bytes m → IsLink f.kind m f.chain → LeavesNewImage color size width height samples r f last m) is l))

  written_by : (answer : Result (List ℕ) TiffError)
      → Answers (view_of_result {Y = Unit {0}} (λ _. tt) answer)
      → IfOk answer (λ file. file ≡ last.bytes)
      → IfOk answer (λ file. ShowsFirst s.kind file (image_by s width height samples))
      → WritesImageFile s width height samples answer
  written_by answer w file shows =
      let written : IsWritten s width height samples answer = record {
        failures = failures;
        last = last;
        written = answered _ w;
        fault = fault;
        file = file;
        shows = shows;
      } in
      inr written

  pub file_written : (file : List ℕ) → Answers (Ok tt) → Leaves (Ok tt) → file ≡ last.bytes
      → WritesImageFile s width height samples (Ok file)
  file_written file w l bytes =
      written_by (Ok file) w bytes
      (subst (λ (bs : List ℕ). ShowsFirst s.kind bs (image_by s width height samples)) (sym bytes)
      (left_shown s width height failures samples last (left (Ok tt) l)))

  pub fault_written : (e : TiffError) → Answers (Err e)
      → WritesImageFile s width height samples (Err e)
  fault_written e w = written_by (Err e) w tt tt

-- ---- samples that bytes are

-- A remainder of 0 is tested as 0.
tested : (n : ℕ) → n ≡ 0 → (n == 0) ≡ true
tested n h = rw h refl

-- Samples that a test lets through, or refuses.
let_through : (b : Bool) (xs lent : List ℕ) (e : TiffError) → Ok lent ≡ (if b then Ok xs else Err e)
    → lent ≡ xs
let_through true xs lent e h = ok_inj lent xs h
let_through false xs lent e h = absurd cc

module _ (s : Settings) (width height : ℕ) (bytes : List ℕ) where
  typed_so : (type : «Type») (told : Result (List ℕ) TiffError) → type ≡ inner_type s.color
      → told ≡ samples_of_type type bytes → samples_from_bytes s.color bytes ≡ told
  typed_so type told typed is = sym (is ∙ ap (λ t. samples_of_type t bytes) typed)

  -- Bytes that are whole samples are written.
  pub whole_by : (answer : Result (List ℕ) TiffError) → length bytes % inner_size s.color ≡ 0
      → WritesImageFile s width height (numbers_in (inner_size s.color) bytes) answer
      → WritesBytes s width height (samples_from_bytes s.color bytes) answer
  whole_by answer none w =
      subst (λ b. WritesBytes s width height (if b then
      Ok (numbers_in (inner_size s.color) bytes) else Err (UsageError (MismatchedEntryLength (inner_type s.color) (length bytes)))) answer)
      (sym (tested (length bytes % inner_size s.color) none)) w

  -- Samples that were made of bytes are written.
  pub lent_written : (samples : List ℕ) (answer : Result (List ℕ) TiffError)
      → samples_from_bytes s.color bytes ≡ Ok samples
      → WritesImageFile s width height samples answer
      → WritesBytes s width height (samples_from_bytes s.color bytes) answer
  lent_written samples answer is w =
      subst (λ told. WritesBytes s width height told answer) (sym is) w

  -- Lent samples stay as they are cut to the width of their type.
  pub lent_made : (type : «Type») (lent numbers : List ℕ) → type ≡ inner_type s.color
      → Ok lent ≡ samples_of_type type bytes
      → ((i : ℕ) → Fits w8 (get_or bytes i 0)) → numbers ≡ cut_to (type_size type) lent
      → samples_from_bytes s.color bytes ≡ Ok numbers
  lent_made type lent numbers typed is fit cut =
      let size : ℕ = type_size type in
      let same : lent ≡ numbers_in size bytes =
      let_through (length bytes % size == 0) (numbers_in size bytes) lent
      (UsageError (MismatchedEntryLength type (length bytes))) is in
      let whole : cut_to size lent ≡ lent =
      ap (cut_to size) same ∙ whole_cut type bytes fit ∙ sym same in
      typed_so type (Ok lent) typed is ∙ ap (λ (xs : List ℕ). Ok xs) (sym (cut ∙ whole))

  -- There is no memory for the samples.
  pub lent_wanting : (type : «Type») (lent : List ℕ) (e : TiffError) → type ≡ inner_type s.color
      → Ok lent ≡ samples_of_type type bytes → e ≡ OutOfMemory
      → WritesBytes s width height (samples_from_bytes s.color bytes) (Err e)
  lent_wanting type lent e typed is wanting =
      lent_written lent (Err e) (typed_so type (Ok lent) typed is)
      (inl (ap (λ (x : TiffError). let r : Result (List ℕ) TiffError = Err x in r) wanting))

  -- Bytes that are no whole number of samples are refused.
  pub lent_refused : (type : «Type») (e : TiffError) → type ≡ inner_type s.color
      → Err e ≡ samples_of_type type bytes
      → WritesBytes s width height (samples_from_bytes s.color bytes) (Err e)
  lent_refused type e typed is =
      subst (λ told. WritesBytes s width height told (Err e)) (sym (typed_so type (Err e) typed is)) refl
