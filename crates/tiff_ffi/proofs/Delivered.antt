-- What C gets for an image that was written, and for jobs.
use Rattle.std.proofs.Common.{◌≡◌, ℕ, ◌<◌, ◌≤◌, ◌⊎◌, inl, inr, List, ◌++◌, length, take, drop, Option, None, Some, Result, Ok, Err, IfOk, refl, sym, ap, subst, ◌∙◌, lit<, arith}
use Rattle.std.proofs.Math.Seq.{take-append_seam, drop-append_seam}
use Rattle.tiff_base.specs.declared.error.TiffError.{TiffError}
use Rattle.tiff_base.specs.declared.error.TiffError.TheVariants.{FormatError, UnsupportedError, IoError, UsageError, LimitsExceeded, IntSizeError, OutOfMemory}
use Rattle.tiff_base.specs.declared.error.TiffFormatError.{TiffFormatError}
use Rattle.tiff_base.specs.declared.error.TiffFormatError.TheVariants.{TiffSignatureNotFound, TiffSignatureInvalid, ImageFileDirectoryNotFound, InconsistentSizesEncountered, InvalidDimensions, InvalidTag, InvalidTagValueType, RequiredTagNotFound, UnknownPredictor, UnknownPlanarConfiguration, InvalidTypeForTag, InvalidCountForTag, StripTileTagConflict, CycleInOffsets, SamplesPerPixelIsZero, CompressedDataCorrupt}
use Rattle.tiff_base.specs.declared.error.TiffUnsupportedError.{TiffUnsupportedError}
use Rattle.tiff_base.specs.declared.error.TiffUnsupportedError.TheVariants.{FloatingPointPredictor, HorizontalPredictor, InconsistentBitsPerSample, InterpretationWithBits, UnknownInterpretation, UnknownCompressionMethod, UnsupportedCompressionMethod, UnsupportedSampleDepth, UnsupportedSampleFormat, UnsupportedColorType, UnsupportedBitsPerChannel, UnsupportedPlanarConfig, UnsupportedDataType, UnsupportedInterpretation, ChromaSubsampling, MisalignedTileBoundaries}
use Rattle.tiff_base.specs.declared.error.UsageError.{UsageError as Usage}
use Rattle.tiff_base.specs.declared.error.UsageError.TheVariants.{InvalidChunkType, InvalidChunkIndex, InvalidPlaneIndex, InvalidCodingUnit, PredictorCompressionMismatch, PredictorIncompatible, PredictorUnavailable, InsufficientOutputBufferSize, InsufficientOutputRowStride, ZeroIfdPointer, ReconfiguredAfterImageWrite, ByteOrderMismatch, MismatchedEntryLength, ParentNotWritten, WriterFailed}
use Rattle.tiff_base.specs.declared.io.IoKind.{IoKind}
use Rattle.tiff_base.specs.declared.io.IoKind.TheVariants.{UnexpectedEof, InvalidData, InvalidInput, WriteZero, Device}
use Rattle.tiff_encode.specs.Shows.{ShowsFirst}
use Rattle.tiff_decode.specs.NextState.{view_of_result}
use Rattle.tiff_ffi.specs.declared.frame.FrameLengths.{FrameLengths}
use Rattle.tiff_ffi.specs.declared.frame.NewFile.{NewFile}
use Rattle.tiff_ffi.specs.Frame.{IsAround, file_of}
use Rattle.tiff_ffi.specs.declared.jobs.Answer.{Answer}
use Rattle.tiff_ffi.specs.declared.jobs.Answer.TheVariants.{NoJob, Ran}
use Rattle.tiff_ffi.specs.declared.jobs.JobsEnd.{JobsEnd}
use Rattle.tiff_ffi.specs.declared.pages.NewPage.{NewPage}
use Rattle.tiff_ffi.specs.declared.pages.PagesAnswer.{PagesAnswer}
use Rattle.tiff_ffi.specs.declared.pages.PagesAnswer.TheVariants.{Ran as pages_ran, Refused as pages_refused}
use Rattle.tiff_ffi.specs.declared.pages.PagesEnd.{PagesEnd}
use Rattle.tiff_ffi.specs.declared.pages.RefusedPage.{RefusedPage}
use Rattle.tiff_ffi.specs.declared.writer.NewImage.{NewImage}
use Rattle.tiff_ffi.specs.declared.writer.Settings.{Settings}
use Rattle.tiff_ffi.specs.Jobs.{AnswersKind, JobsTell, TellsAnswer, TellsRan}
use Rattle.tiff_ffi.specs.Pages.{AnswersVersion, PagesTell, TellsPages, TellsWritten}
use Rattle.tiff_ffi.specs.Status.{fault_number, format_fault_number, unsupported_fault_number, usage_fault_number, io_fault_number}
use Rattle.tiff_ffi.specs.Writer.{Delivers, DeliversParts, FrameTells, IsShown, WriterTells, WritesBy, WritesBytes, WritesNew, image_by, kind_of, samples_from_bytes, settings_of}

-- No error has the number 0.
some_format : (e : TiffFormatError) → 0 < format_fault_number e
some_format TiffSignatureNotFound = lit< tt
some_format TiffSignatureInvalid = lit< tt
some_format ImageFileDirectoryNotFound = lit< tt
some_format InconsistentSizesEncountered = lit< tt
some_format (InvalidDimensions a b) = lit< tt
some_format InvalidTag = lit< tt
some_format (InvalidTagValueType a) = lit< tt
some_format (RequiredTagNotFound a) = lit< tt
some_format (UnknownPredictor a) = lit< tt
some_format (UnknownPlanarConfiguration a) = lit< tt
some_format InvalidTypeForTag = lit< tt
some_format (InvalidCountForTag a b) = lit< tt
some_format StripTileTagConflict = lit< tt
some_format CycleInOffsets = lit< tt
some_format SamplesPerPixelIsZero = lit< tt
some_format (CompressedDataCorrupt a) = lit< tt

some_unsupported : (e : TiffUnsupportedError) → 0 < unsupported_fault_number e
some_unsupported (FloatingPointPredictor a) = lit< tt
some_unsupported (HorizontalPredictor a) = lit< tt
some_unsupported (InconsistentBitsPerSample a) = lit< tt
some_unsupported (InterpretationWithBits a b) = lit< tt
some_unsupported UnknownInterpretation = lit< tt
some_unsupported UnknownCompressionMethod = lit< tt
some_unsupported (UnsupportedCompressionMethod a) = lit< tt
some_unsupported (UnsupportedSampleDepth a) = lit< tt
some_unsupported (UnsupportedSampleFormat a) = lit< tt
some_unsupported (UnsupportedColorType a) = lit< tt
some_unsupported (UnsupportedBitsPerChannel a) = lit< tt
some_unsupported (UnsupportedPlanarConfig a) = lit< tt
some_unsupported UnsupportedDataType = lit< tt
some_unsupported (UnsupportedInterpretation a) = lit< tt
some_unsupported ChromaSubsampling = lit< tt
some_unsupported MisalignedTileBoundaries = lit< tt

some_usage : (e : Usage) → 0 < usage_fault_number e
some_usage (InvalidChunkType a b) = lit< tt
some_usage (InvalidChunkIndex a) = lit< tt
some_usage (InvalidPlaneIndex a) = lit< tt
some_usage (InvalidCodingUnit a b) = lit< tt
some_usage PredictorCompressionMismatch = lit< tt
some_usage PredictorIncompatible = lit< tt
some_usage PredictorUnavailable = lit< tt
some_usage (InsufficientOutputBufferSize a b) = lit< tt
some_usage (InsufficientOutputRowStride a b) = lit< tt
some_usage ZeroIfdPointer = lit< tt
some_usage ReconfiguredAfterImageWrite = lit< tt
some_usage ByteOrderMismatch = lit< tt
some_usage (MismatchedEntryLength a b) = lit< tt
some_usage ParentNotWritten = lit< tt
some_usage WriterFailed = lit< tt

some_io : (e : IoKind) → 0 < io_fault_number e
some_io UnexpectedEof = lit< tt
some_io InvalidData = lit< tt
some_io InvalidInput = lit< tt
some_io WriteZero = lit< tt
some_io Device = lit< tt

some_fault : (e : TiffError) → 0 < fault_number e
some_fault (FormatError e) = some_format e
some_fault (UnsupportedError e) = some_unsupported e
some_fault (IoError k) = some_io k
some_fault (UsageError e) = some_usage e
some_fault LimitsExceeded = lit< tt
some_fault IntSizeError = lit< tt
some_fault OutOfMemory = lit< tt

pub none : (e : TiffError) (n : ℕ) → n ≡ fault_number e → n ≡ 0 → ⊥
none e n is zero = let h = some_fault e in omega (arith, is, zero, h)

-- ---- a file that was delivered

-- An error is no file.
err_ok : {e : TiffError} {file : List ℕ} → let a : Result (List ℕ) TiffError =
    Ok file in let b : Result (List ℕ) TiffError = Err e in a ≡ b → ⊥
err_ok h = cc

module _ (image : NewImage) (bytes file old new : List ℕ) (len : ℕ) (is : len ≡ length file)
    (fits : length file ≤ length old)
    (put : new ≡ file ++ drop (length file) old) where
  front : take len new ≡ file
  front =
      ap (λ n. take n new) is ∙ ap (take (length file)) put
      ∙ take-append_seam file (drop (length file) old)

  rest : drop len new ≡ drop len old
  rest =
      ap (λ n. drop n new) is ∙ ap (drop (length file)) put
      ∙ drop-append_seam file (drop (length file) old) ∙ ap (λ n. drop n old) (sym is)

  by_samples : (s : Settings) → settings_of image ≡ Ok s → (r : Result (List ℕ) TiffError)
      → samples_from_bytes s.color bytes ≡ r
      → WritesBytes s image.width image.height r (Ok file) → IsShown image bytes old new len
  by_samples s asked (Ok samples) are (inl w) = absurd (err_ok w)
  by_samples s asked (Ok samples) are (inr w) = record {
    settings = s;
    by = asked;
    samples = samples;
    are = are;
    room = subst (λ n. n ≤ length old) (sym is) fits;
    shows =
        subst (λ (f : List ℕ). ShowsFirst s.kind f (image_by s image.width image.height samples))
        (sym front) w.shows;
    rest = rest;
  }
  by_samples s asked (Err e) are w = absurd (err_ok w)

  by_settings : (r : Result Settings TiffError) → settings_of image ≡ r
      → WritesBy r image.width image.height bytes (Ok file) → IsShown image bytes old new len
  by_settings (Ok s) asked w = by_samples s asked (samples_from_bytes s.color bytes) refl w
  by_settings (Err e) asked w = absurd (err_ok w)

delivered : (image : NewImage) (bytes : List ℕ) (answer : Result (List ℕ) TiffError) (status : ℕ)
    (old new : List ℕ) (len_old len_new : ℕ)
    → WritesNew image bytes answer → Delivers answer status old new len_old len_new → status ≡ 0
    → IsShown image bytes old new len_new
delivered image bytes (Ok file) status old new len_old len_new w (is, inl put) zero =
    by_settings image bytes file old new len_new is put.0 put.1.1 (settings_of image) refl w
delivered image bytes (Ok file) status old new len_old len_new w (is, inr none_put) zero =
    absurd (none (UsageError (InsufficientOutputBufferSize (length file) (length old))) status none_put.1.0 zero)
delivered image bytes (Err e) status old new len_old len_new w d zero =
    absurd (none e status d.0 zero)

kept : (answer : Result (List ℕ) TiffError) (status : ℕ) (old new : List ℕ) (len_old len_new : ℕ)
    → Delivers answer status old new len_old len_new → (status ≡ 0) ⊎ (new ≡ old)
kept (Ok file) status old new len_old len_new (is, inl put) = inl put.1.0
kept (Ok file) status old new len_old len_new (is, inr none_put) = inr none_put.1.1
kept (Err e) status old new len_old len_new d = inr d.1.0

-- What C gets for an image that was written.
pub told_new : (image : NewImage) (bytes : List ℕ) (answer : Result (List ℕ) TiffError) (status : ℕ)
    (old new : List ℕ) (len_old len_new : ℕ)
    → WritesNew image bytes answer → Delivers answer status old new len_old len_new
    → WriterTells image bytes status old new len_old len_new
told_new image bytes answer status old new len_old len_new w d = (answer, (w, d))

pub told_shown : (image : NewImage) (bytes : List ℕ) (answer : Result (List ℕ) TiffError)
    (status : ℕ) (old new : List ℕ) (len_old len_new : ℕ)
    → WritesNew image bytes answer → Delivers answer status old new len_old len_new → status ≡ 0
    → IsShown image bytes old new len_new
told_shown image bytes answer status old new len_old len_new w d zero =
    delivered image bytes answer status old new len_old len_new w d zero

pub told_kept : (image : NewImage) (bytes : List ℕ) (answer : Result (List ℕ) TiffError)
    (status : ℕ) (old new : List ℕ) (len_old len_new : ℕ)
    → WritesNew image bytes answer → Delivers answer status old new len_old len_new
    → (status ≡ 0) ⊎ (new ≡ old)
told_kept image bytes answer status old new len_old len_new w d =
    kept answer status old new len_old len_new d

-- ---- the parts of a file around samples

-- What C gets for an image around its samples.
pub told_around : (image : NewImage) (bytes : List ℕ) (answer : Result NewFile TiffError)
    (status : ℕ) (old new : List ℕ) (len_old len_new : FrameLengths)
    → WritesNew image bytes (view_of_result file_of answer)
    → IfOk answer (λ file. IsAround bytes file)
    → ((samples : List ℕ) → IfOk answer (λ file. IsAround samples file)
    → DeliversParts (view_of_result file_of answer) samples status old new len_old len_new)
    → FrameTells image bytes status old new len_old len_new
told_around image bytes answer status old new len_old len_new w around d =
    (view_of_result file_of answer, (w, d bytes around))

kept_parts : (answer : Result (List ℕ) TiffError) (bytes : List ℕ) (status : ℕ) (old new : List ℕ)
    (len_old len_new : FrameLengths)
    → DeliversParts answer bytes status old new len_old len_new → (status ≡ 0) ⊎ (new ≡ old)
kept_parts (Ok file) bytes status old new len_old len_new (is, (all, inl put)) = inl put.1.0
kept_parts (Ok file) bytes status old new len_old len_new (is, (all, inr none_put)) =
    inr none_put.1.1
kept_parts (Err e) bytes status old new len_old len_new d = inr d.1.0

pub kept_around : (bytes : List ℕ) (answer : Result NewFile TiffError) (status : ℕ)
    (old new : List ℕ) (len_old len_new : FrameLengths)
    → IfOk answer (λ file. IsAround bytes file)
    → ((samples : List ℕ) → IfOk answer (λ file. IsAround samples file)
    → DeliversParts (view_of_result file_of answer) samples status old new len_old len_new)
    → (status ≡ 0) ⊎ (new ≡ old)
kept_around bytes answer status old new len_old len_new around d =
    kept_parts (view_of_result file_of answer) bytes status old new len_old len_new (d bytes around)

-- ---- the file of jobs

-- What C gets for jobs.
pub told_jobs : (version : ℕ) (text : List ℕ) (answer : Result Answer TiffError) (status : ℕ)
    (old new : List ℕ) (len_old len_new : ℕ) (end : JobsEnd)
    → AnswersKind (kind_of version) text answer
    → TellsAnswer answer status old new len_old len_new end
    → JobsTell version text status old new len_old len_new end
told_jobs version text answer status old new len_old len_new end a t = (answer, (a, t))

kept_ran : (file : List ℕ) (refused : Option (ℕ × ℕ)) (status : ℕ) (old new : List ℕ)
    (len_old len_new : ℕ) (end : JobsEnd)
    → TellsRan file refused status old new len_old len_new end → (status ≡ 0) ⊎ (new ≡ old)
kept_ran file None status old new len_old len_new end t =
    kept (Ok file) status old new len_old len_new t.0
kept_ran file (Some r) status old new len_old len_new end t = inr t.1.0.0

pub kept_jobs : (answer : Result Answer TiffError) (status : ℕ) (old new : List ℕ)
    (len_old len_new : ℕ) (end : JobsEnd)
    → TellsAnswer answer status old new len_old len_new end → (status ≡ 0) ⊎ (new ≡ old)
kept_jobs (Ok (Ran ran)) status old new len_old len_new end t =
    kept_ran ran.file.items ran.refused status old new len_old len_new end t
kept_jobs (Ok (NoJob line)) status old new len_old len_new end t = inr t.1.0.0
kept_jobs (Err e) status old new len_old len_new end t = inr t.1.0.0

-- ---- the file of pages

-- What C gets for pages.
pub told_pages : (version : ℕ) (pages : List NewPage) (answer : Result PagesAnswer TiffError)
    (status : ℕ) (old new : List ℕ) (len_old len_new : ℕ) (end : PagesEnd)
    → AnswersVersion (kind_of version) pages answer
    → TellsPages answer status old new len_old len_new end
    → PagesTell version pages status old new len_old len_new end
told_pages version pages answer status old new len_old len_new end a t = (answer, (a, t))

kept_written : (file : List ℕ) (refused : Option RefusedPage) (status : ℕ) (old new : List ℕ)
    (len_old len_new : ℕ) (end : PagesEnd)
    → TellsWritten file refused status old new len_old len_new end → (status ≡ 0) ⊎ (new ≡ old)
kept_written file None status old new len_old len_new end t =
    kept (Ok file) status old new len_old len_new t.0
kept_written file (Some page) status old new len_old len_new end t = inr t.1.0.0

pub kept_pages : (answer : Result PagesAnswer TiffError) (status : ℕ) (old new : List ℕ)
    (len_old len_new : ℕ) (end : PagesEnd)
    → TellsPages answer status old new len_old len_new end → (status ≡ 0) ⊎ (new ≡ old)
kept_pages (Ok (pages_ran ran)) status old new len_old len_new end t =
    kept_written ran.file.items ran.refused status old new len_old len_new end t
kept_pages (Ok (pages_refused page refusal)) status old new len_old len_new end t = inr t.1.0.0
kept_pages (Err e) status old new len_old len_new end t = inr t.1.0.0
