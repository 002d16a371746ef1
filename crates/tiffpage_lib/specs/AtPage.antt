-- The result of a call on a page, which is sought first.
use Rattle.std.specs.Prelude.{◌≡◌, ℕ, ◌≤◌, List, Option, None, Some, Result}
use Rattle.tiff_base.specs.declared.error.TiffError.{TiffError}
use Rattle.tiff_decode.specs.NextState.{IsNamedFault}
use Rattle.tiff_decode.specs.Failures.{fault_of}
use Rattle.tiff.specs.Answers.{Answers, AnswersBut, ◌>>=◌}
use Rattle.tiff.specs.Machine.{Decoding}
use Rattle.tiff.specs.DefaultLimits.{default_limits}
use Rattle.tiff.specs.Opened.{opened_of}
use Rattle.tiff.specs.Outcome.{seek_to_image}
use Rattle.tiff_ifd.specs.declared.limits.Limits.{Limits}
use Rattle.tiff_pages.specs.OfFile.{under}

-- the decoder at the page with this number
abbrev pub page_decoder : Decoding → ℕ → Decoding
page_decoder d page = record d { state = (seek_to_image d page).next }

-- what a decoder returns at the page with this number, or the error of the seek to it
abbrev pub at_page : {Y : Type 0} → (Decoding → Result Y TiffError) → Decoding → ℕ
    → Result Y TiffError
at_page given d page = do
  _ ← (seek_to_image d page).answer
  given (page_decoder d page)

-- The result, seen by `view`, is the given one at the page, unless memory is out or the device
-- fails. Except for these two, the decoder is where the seek leaves it. Its file is the same in
-- each case.
pub record VisitsPage {X Y : Type 0} (view : X → Y) (given : Decoding
    → Result Y TiffError) (result : Result X TiffError) (page : ℕ) (old new : Decoding) : Type 0
  where
    pub answer : Answers view result (at_page given old page) old.failures new.failures
    pub file : new ≡ record old { failures = new.failures; state = new.state }
    pub failures : old.failures ≤ new.failures
    pub stands : IsNamedFault (fault_of result) → new.state ≡ (seek_to_image old page).next

-- the given result at the page of a file with this number, or the first error; the file is opened
-- by its header, so no page before it is asked for
abbrev pub in_file : {Y : Type 0} → (Decoding → Result Y TiffError) → List ℕ → ℕ
    → Result Y TiffError
in_file given file page = opened_of file 0 >>= λ d. at_page given d page

-- The result, seen by `view`, is the given one at the page of a file, unless memory is out or the
-- device fails.
abbrev pub AnswersIn : {X Y : Type 0} → (X → Y) → (Decoding → Result Y TiffError)
    → Result X TiffError → List ℕ → ℕ → Type 0
AnswersIn view given result file page =
    AnswersBut (Unit {0}) (Unit {0}) view result (in_file given file page)

-- ---- under limits

-- the default limits; or so many bytes for a result, and as many for a chunk in the file
abbrev pub limits_for : Option ℕ → Limits
limits_for None = default_limits
limits_for (Some bytes) =
    record default_limits { decoding_buffer_size = bytes; intermediate_buffer_size = bytes }

-- the given result under limits at the page of a file with this number, or the first error
abbrev pub in_file_under : {Y : Type 0} → (Decoding → Result Y TiffError) → Limits → List ℕ → ℕ
    → Result Y TiffError
in_file_under given limits file page = opened_of file 0 >>= λ d.
    at_page given (under limits d) page

-- The result, seen by `view`, is the given one under limits at the page of a file, unless memory is
-- out or the device fails.
abbrev pub AnswersUnder : {X Y : Type 0} → (X → Y) → (Decoding → Result Y TiffError) → Limits
    → Result X TiffError → List ℕ → ℕ → Type 0
AnswersUnder view given limits result file page =
    AnswersBut (Unit {0}) (Unit {0}) view result (in_file_under given limits file page)
