-- What C gets for a list of jobs: the file that the jobs leave, or where the list was refused.
use Rattle.std.specs.Prelude.{◌≡◌, ℕ, ◌+◌, ◌-◌, ◌==◌, ◌++◌, Bool, not, List, [], ◌∷◌, map, position, slice_get, if◌then◌else◌, Option, None, Some, Result, Ok, Err}
use Rattle.std.specs.Str.{is_utf8}
use Rattle.tiff_base.specs.declared.error.TiffError.{TiffError}
use Rattle.tiff_base.specs.declared.error.TiffError.TheVariants.{FormatError, IoError, OutOfMemory}
use Rattle.tiff_base.specs.declared.error.TiffFormatError.TheVariants.{TiffSignatureInvalid}
use Rattle.tiff_base.specs.declared.io.IoKind.TheVariants.{InvalidInput}
use Rattle.tiff_base.specs.declared.tags.FileKind.{FileKind}
use Rattle.tiff_encode.specs.declared.encoder.script.Job.{Job}
use Rattle.tiff_encode.specs.declared.encoder.script.JobReply.{JobReply}
use Rattle.tiff_encode.specs.declared.encoder.script.StepReply.{StepReply}
use Rattle.tiff_encode.specs.Jobs.{LeavesJobs}
use Rattle.tiff_script.specs.Jobs.{JobData, job_held, jobs_spelled}
use Rattle.tiff_ffi.specs.declared.jobs.Answer.{Answer}
use Rattle.tiff_ffi.specs.declared.jobs.Answer.TheVariants.{NoJob, Ran}
use Rattle.tiff_ffi.specs.declared.jobs.JobsEnd.{JobsEnd}
use Rattle.tiff_ffi.specs.Status.{fault_number, status}
use Rattle.tiff_ffi.specs.Writer.{Delivers, kind_of}

-- ---- which job was refused

-- the first status of a list that is not 0, or 0
abbrev pub first_status : List ℕ → ℕ
first_status [] = 0
first_status (n ∷ ns) = if n == 0 then first_status ns else n

-- the status of a job: of its first step that was refused, else of its end
abbrev pub job_status : JobReply → ℕ
job_status reply = first_status (map status reply.steps.items ++ status reply.last ∷ [])

-- the first job that had an error: its number, counted from `n` on, and its status
abbrev pub first_refused : ℕ → List JobReply → Option (ℕ × ℕ)
first_refused n [] = None
first_refused n (reply ∷ replies) = if job_status reply == 0 then first_refused (n + 1) replies
    else Some (n, job_status reply)

-- whether a step was refused
abbrev pub is_refused : Result StepReply TiffError → Bool
is_refused reply = not (status reply == 0)

-- the step of a job that had the job's first error, counted from 0; none if that is the error of
-- its end
abbrev pub step_in : Option JobReply → Option ℕ
step_in None = None
step_in (Some reply) = position is_refused reply.steps.items

-- the step that had the error of the first job that had one
abbrev pub refused_step : List JobReply → Option (ℕ × ℕ) → Option ℕ
refused_step replies None = None
refused_step replies (Some refused) = step_in (slice_get replies (refused.0 - 1))

-- ---- what jobs leave

-- The jobs left this file on an empty sink, `refused` is the first of them that had an error,
-- counted from 1, and `step` is the step that had it.
pub record RanJobs (kind : FileKind) (jobs : List Job) (file : List ℕ) (refused : Option (ℕ × ℕ))
    (step : Option ℕ) : Type 0 where
  pub replies : List JobReply
  pub before : ℕ
  pub after : ℕ
  pub leaves : LeavesJobs kind jobs replies [] before file after
  pub refused_is : refused ≡ first_refused 1 replies
  pub step_is : step ≡ refused_step replies refused

-- The jobs that bytes spell, or the number, from 1, of the first line that spells none; 0 for bytes
-- that are no text. docs/TIFFPAGE.md has the words of lists of jobs.
abbrev pub jobs_in : List ℕ → Result (List JobData) ℕ
jobs_in bytes = if is_utf8 bytes then jobs_spelled bytes else Err 0

-- The answer to a text of jobs: the first line that spells none, or the jobs that it spells were
-- run.
abbrev pub AnswersJobs : FileKind → List ℕ → Answer → Type 0
AnswersJobs kind text (NoJob line) = jobs_in text ≡ Err line
AnswersJobs kind text (Ran ran) = (jobs : List Job) × (jobs_in text ≡ Ok (map job_held jobs))
    × RanJobs kind jobs ran.file.items ran.refused ran.step

-- ---- what C gets

abbrev pub no_end : JobsEnd
no_end = record { line = 0; job = 0 }

-- a buffer and a length stay
abbrev pub Stays : List ℕ → List ℕ → ℕ → ℕ → Type 0
Stays old new len_old len_new = (new ≡ old) × (len_new ≡ len_old)

-- The file of jobs is delivered if none of them had an error; else C gets the number and the status
-- of the first job that had one.
abbrev pub TellsRan : List ℕ → Option (ℕ × ℕ) → ℕ → List ℕ → List ℕ → ℕ → ℕ → JobsEnd → Type 0
TellsRan file None status old new len_old len_new end =
    Delivers (Ok file) status old new len_old len_new × (end ≡ no_end)
TellsRan file (Some refused) status old new len_old len_new end =
    (status ≡ refused.1)
    × (Stays old new len_old len_new × (end ≡ record { line = 0; job = refused.0 }))

-- C gets the number of a line that is no job, and no job was run; or it gets the error.
abbrev pub TellsAnswer : Result Answer TiffError → ℕ → List ℕ → List ℕ → ℕ → ℕ → JobsEnd → Type 0
TellsAnswer (Ok (Ran ran)) status old new len_old len_new end =
    TellsRan ran.file.items ran.refused status old new len_old len_new end
TellsAnswer (Ok (NoJob line)) status old new len_old len_new end =
    (status ≡ fault_number (IoError InvalidInput))
    × (Stays old new len_old len_new × (end ≡ record { line = line; job = 0 }))
TellsAnswer (Err e) status old new len_old len_new end = (status ≡ fault_number e)
    × (Stays old new len_old len_new × (end ≡ no_end))

-- the answer to a text of jobs for a file of this kind, or out of memory; without a kind, the
-- version is an error
abbrev pub AnswersKind : Option FileKind → List ℕ → Result Answer TiffError → Type 0
AnswersKind None text answer = answer ≡ Err (FormatError TiffSignatureInvalid)
AnswersKind (Some kind) text (Ok answer) = AnswersJobs kind text answer
AnswersKind (Some kind) text (Err e) = e ≡ OutOfMemory

-- the status, the buffer, the length and the end that C gets for a text of jobs and the version in
-- the header of their file
abbrev pub JobsTell : ℕ → List ℕ → ℕ → List ℕ → List ℕ → ℕ → ℕ → JobsEnd → Type 0
JobsTell version text status old new len_old len_new end =
    (answer : Result Answer TiffError)
    × (AnswersKind (kind_of version) text answer
    × TellsAnswer answer status old new len_old len_new end)
