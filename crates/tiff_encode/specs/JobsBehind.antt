-- Jobs that are run behind a file (this project's).
use Rattle.std.specs.Prelude.{◌≡◌, ℕ, ◌+◌, ◌≤◌, List, [], ◌++◌, length}
use Rattle.tiff_base.specs.declared.tags.FileKind.{FileKind}
use Rattle.tiff_encode.specs.declared.encoder.script.Job.{Job}
use Rattle.tiff_encode.specs.declared.encoder.script.JobReply.{JobReply}
use Rattle.tiff_encode.specs.Appending.{Continues, GoesOnBehind, continued_file}
use Rattle.tiff_value.specs.FileBytes.{offset_len}
use Rattle.tiff_encode.specs.Jobs.{Run, JobsRun, RunShows, RunStands}
use Rattle.tiff_encode.specs.Machine.{FileState}
use Rattle.tiff_value.specs.Model.{Model}
use Rattle.tiff_encode.specs.Running.{JobsMove}

-- a run that begins behind a file, which contains a model
abbrev pub run_behind : FileState → Model → Run
run_behind file former =
    record { standing = record { file = file; model = former }; offsets = []; images = [] }

-- What jobs leave that are run with an encoder that goes on behind a file, whose last link is at q:
-- their replies are those of a run, and the file is that of the run. It has the bytes of the former
-- file, except those of that link, and more bytes behind them. It contains all that was written,
-- and shows each image that is finished with all its chunks, also if the sink fails in between.
pub record LeavesBehind (kind : FileKind) (q : ℕ) (contents : List ℕ) (former : Model) (jobs : List Job)
    (replies : List JobReply)
    (old new : FileState) : Type 0 where
  pub run : Run
  pub run_is : JobsRun (run_behind old former) jobs replies run
  pub file_is : run.standing.file ≡ new
  pub continues : Continues kind q contents new.bytes
  pub stands : RunStands run
  pub shows : RunShows run

-- The law: so `run_jobs_in` leaves a file that an encoder goes on behind.
abbrev pub JobsGoOn : Type 0
JobsGoOn =
    (kind : FileKind) (contents : List ℕ) (failures q : ℕ) (former : Model) (jobs : List Job)
    (earlier all : List JobReply) (new : FileState)
    → q + offset_len kind ≤ length contents → GoesOnBehind kind contents q former
    → JobsMove jobs earlier all (continued_file kind contents failures q) new
    → (replies : List JobReply) × ((all ≡ earlier ++ replies)
    × LeavesBehind kind q contents former jobs replies (continued_file kind contents failures q) new)
