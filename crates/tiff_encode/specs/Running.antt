-- How a job is run: from the call that begins it to its end (this project's).
use Rattle.std.specs.Prelude.{◌≡◌, ℕ, ◌+◌, ◌-◌, ◌≤◌, Bool, List, [], ◌∷◌, ◌++◌, length, slice_get, vec_capacity, Option, Some, None, Result, Ok, Err}
use Rattle.std.specs.declared.vec.Vec.{Vec}
use Rattle.std.specs.declared.alloc.Global.{Global}
use Rattle.tiff_base.specs.declared.error.TiffError.{TiffError}
use Rattle.tiff_base.specs.declared.error.TiffError.TheVariants.{OutOfMemory}
use Rattle.tiff_encode.specs.declared.encoder.script.DirectoryJob.{DirectoryJob}
use Rattle.tiff_encode.specs.declared.encoder.script.ImageJob.{ImageJob}
use Rattle.tiff_encode.specs.declared.encoder.script.Job.{Job}
use Rattle.tiff_encode.specs.declared.encoder.script.Job.TheVariants as job
use Rattle.tiff_encode.specs.declared.encoder.script.JobReply.{JobReply}
use Rattle.tiff_value.specs.Model.{In, IsLink, Grows}
use Rattle.tiff_encode.specs.Machine.{FileState, OpenDirectory, OpenImage}
use Rattle.tiff_encode.specs.Calls.{Offsets}
use Rattle.tiff_encode.specs.Open.{RecordsImage}
use Rattle.tiff_encode.specs.Jobs.{FileAndModel, Drawn, Run, FinishedImage, DirectoryStepped, ImageStepped, AllStepped, DirectoryEnds, ImageEnds, DirectoryRan, ImageRan, JobsRun, named_parent, job_images, offsets_in}
use Rattle.tiff_encode.specs.Stepping.{StandsIfKnown, HasLink, IsHeld, IsSound, offsets_answered}

-- the number of steps of a job
abbrev pub step_count : Job → ℕ
step_count (job.Directory j) = length j.steps.items
step_count (job.Image j) = length j.steps.items
step_count _ = 0

-- ---- parents

-- the offset of the link of a parent, if the job names one
abbrev pub link_in : Option Offsets → Option ℕ
link_in None = None
link_in (Some offsets) = Some offsets.link

-- a directory with a parent's link, if there is one
abbrev pub linked_from : Option ℕ → OpenDirectory → OpenDirectory
linked_from None d = d
linked_from (Some link) d = record d { parent = Some link }

-- the offset of the link of the directory of an earlier job, or the error if there is none
abbrev pub NamesLink : List (Option Offsets) → Option ℕ → Result (Option ℕ) TiffError → Type 0
NamesLink offsets parent (Ok link) = (o : Option Offsets)
    × ((named_parent offsets parent ≡ Ok o) × (link ≡ link_in o))
NamesLink offsets parent (Err e) = named_parent offsets parent ≡ Err e

-- ---- open directories and images

-- The steps of an open directory are run, and it ends.
pub record DirectoryGoes (first : OpenDirectory) (j : DirectoryJob) (r : JobReply) (known : Bool)
    (s : FileAndModel) (new : FileState) : Type 0 where
  pub final : OpenDirectory
  pub after_steps : FileAndModel
  pub steps : AllStepped DirectoryStepped s first j.steps.items r.steps.items after_steps final
  pub offset : Option Offsets
  pub after_end : FileAndModel
  pub ends : DirectoryEnds after_steps final j.end r.last after_end offset
  pub file : after_end.file ≡ new
  pub stands : StandsIfKnown known after_end
  pub grows : Grows s.model after_end.model
  pub own : (o : Offsets) → offset ≡ Some o → IsLink after_end.file.kind after_end.model o.link
  pub chain : IsLink s.file.kind s.model s.file.chain
      → IsLink after_end.file.kind after_end.model after_end.file.chain

-- the steps of an open directory are run, and it ends, from each standing in which its parent's
-- link is a link of the model
abbrev pub DirectoryGoesOn : OpenDirectory → DirectoryJob → JobReply → FileState → FileState
    → Type 0
DirectoryGoesOn first j r old new =
    (known : Bool) (s : FileAndModel) → s.file ≡ old → StandsIfKnown known s
    → HasLink known s first.parent → DirectoryGoes first j r known s new

-- The steps of an open image are run, and it ends. If it is finished with all its chunks, the model
-- records it.
pub record ImageGoes (first : OpenImage) (j : ImageJob) (r : JobReply) (known : Bool)
    (s : FileAndModel) (new : FileState) : Type 0 where
  pub final : Drawn
  pub after_steps : FileAndModel
  pub steps : AllStepped ImageStepped s (record { image = first; samples = [] }) j.steps.items
      r.steps.items after_steps final
  pub offset : Option Offsets
  pub after_end : FileAndModel
  pub ends : ImageEnds after_steps final.image j.end r.last after_end offset
  pub file : after_end.file ≡ new
  pub stands : StandsIfKnown known after_end
  pub grows : Grows s.model after_end.model
  pub chain : IsLink s.file.kind s.model s.file.chain
      → IsLink after_end.file.kind after_end.model after_end.file.chain
  pub held : RecordsImage s.file.kind s.model first []
      → (f : FinishedImage) → In f (job_images j.steps.items r.steps.items j.end final offset)
      → IsHeld after_end f

abbrev pub ImageGoesOn : OpenImage → ImageJob → JobReply → FileState → FileState → Type 0
ImageGoesOn first j r old new =
    (known : Bool) (s : FileAndModel) → s.file ≡ old → StandsIfKnown known s
    → HasLink known s first.directory.parent → ImageGoes first j r known s new

-- ---- jobs

-- From each sound run so far, a job leads to a sound run with the offsets that its end returns, if
-- the kind of the file is the same.
abbrev pub RunsOn : (Run → Run → Type 0) → JobReply → FileState → FileState → Type 0
RunsOn Ran r old new =
    new.kind ≡ old.kind → (known : Bool) (run : Run) → run.standing.file ≡ old → IsSound known run
    → (after : Run) × ((after.standing.file ≡ new) × (Ran run after
    × (IsSound known after × (after.offsets ≡ run.offsets ++ offsets_in r.last ∷ []))))

abbrev pub ImageRunsOn : ImageJob → JobReply → FileState → FileState → Type 0
ImageRunsOn j r = RunsOn (λ run after. ImageRan run j r after) r

-- from each sound run so far, a directory job whose parent's link is a link of the model leads to a
-- sound run with the offsets that its end returns
abbrev pub DirectoryRunsOn : Option ℕ → DirectoryJob → JobReply → FileState → FileState → Type 0
DirectoryRunsOn link j r old new =
    new.kind ≡ old.kind → (known : Bool) (run : Run) (parent : Option Offsets)
    → run.standing.file ≡ old → IsSound known run
    → link ≡ link_in parent → HasLink known run.standing link
    → (after : Run) × ((after.standing.file ≡ new) × (DirectoryRan run parent j r after
    × (IsSound known after × (after.offsets ≡ run.offsets ++ offsets_in r.last ∷ []))))

-- ---- lists of jobs

-- Jobs are run one after another, and their replies are appended to the earlier ones.
abbrev pub JobsMove : List Job → List JobReply → List JobReply → FileState → FileState → Type 0
JobsMove jobs earlier all old new =
    (replies : List JobReply) × ((all ≡ earlier ++ replies)
    × ((known : Bool) (run : Run) → run.standing.file ≡ old → run.offsets ≡ [] → IsSound known run
    → (after : Run) × ((after.standing.file ≡ new) × (JobsRun run jobs replies after
    × (IsSound known after × (after.offsets ≡ offsets_answered replies))))))

-- `run_jobs_in`: jobs are run one after another; or there is no memory for their replies, and no
-- job is run.
abbrev pub RunsJobsIn : List Job → List JobReply → List JobReply → FileState → FileState
    → Result (Unit {0}) TiffError → Type 0
RunsJobsIn jobs earlier all old new (Ok x) = JobsMove jobs earlier all old new
RunsJobsIn jobs earlier all old new (Err e) = (e ≡ OutOfMemory) × ((all ≡ earlier) × (new ≡ old))

-- an empty list with room for `count` items
abbrev pub IsEmptyWithRoom : {A : Type 0} → ℕ → Vec A Global → Type 0
IsEmptyWithRoom count list = (list.items ≡ []) × (count ≤ vec_capacity list)

-- empty lists with room for the replies to the steps of each job, that of the last job first
abbrev pub AreRooms : {A : Type 0} → List Job → List (Vec A Global) → Type 0
AreRooms {A = A} jobs rooms =
    (k : ℕ) (j : Job) (room : Vec A Global) → slice_get rooms k ≡ Some room
    → slice_get jobs (length jobs - (k + 1)) ≡ Some j
    → IsEmptyWithRoom (step_count j) room
