-- What all calls of a list of jobs have in common: each leads from a standing of the file before it
-- to a standing of the file after it (this project's).
use Rattle.std.specs.Prelude.{◌≡◌, ℕ, Bool, true, List, ◌∷◌, [], ◌++◌, map, Option, Some, Result}
use Rattle.tiff_base.specs.declared.error.TiffError.{TiffError}
use Rattle.tiff_encode.specs.declared.encoder.script.ImageEnd.{ImageEnd}
use Rattle.tiff_encode.specs.declared.encoder.script.ImageStep.{ImageStep}
use Rattle.tiff_encode.specs.declared.encoder.script.Job.{Job}
use Rattle.tiff_encode.specs.declared.encoder.script.JobReply.{JobReply}
use Rattle.tiff_encode.specs.declared.encoder.script.StepReply.{StepReply}
use Rattle.tiff_value.specs.Model.{In, IsLink, FileContains, Grows}
use Rattle.tiff_encode.specs.Machine.{FileState, OpenImage}
use Rattle.tiff_encode.specs.Calls.{Offsets}
use Rattle.tiff_encode.specs.Held.{image_with}
use Rattle.tiff_encode.specs.Open.{RecordsImage, HoldsEnded}
use Rattle.tiff_encode.specs.Shows.{Shows}
use Rattle.tiff_encode.specs.Jobs.{FileAndModel, Drawn, Run, FinishedImage, ImageStepped, AllStepped, JobRan, is_apart, are_apart, ended_samples, offsets_in}

-- the file contains the model, if `known`
abbrev pub StandsIfKnown : Bool → FileAndModel → Type 0
StandsIfKnown known s = known ≡ true → FileContains s.file.kind s.file.bytes s.model

-- the link of a parent is a link of the model, if `known`
abbrev pub HasLink : Bool → FileAndModel → Option ℕ → Type 0
HasLink known s parent = known ≡ true → (offset : ℕ) → parent ≡ Some offset
    → IsLink s.file.kind s.model offset

-- A call leads from each standing of the file before it to a standing of the file after it: if the
-- file contains the model before the call, it contains the model after the call, which has
-- everything that the model before it has.
abbrev pub Moves : (FileAndModel → FileAndModel → Type 0) → FileState → FileState → Type 0
Moves Moved old new =
    (known : Bool) (s : FileAndModel) → s.file ≡ old → StandsIfKnown known s
    → (t : FileAndModel)
    × ((t.file ≡ new) × (Moved s t × (StandsIfKnown known t × Grows s.model t.model)))

-- ---- images

-- a call of an image leads from a standing to a standing, with the samples of the chunks before and
-- after it; the model still records the image if no tag that describes a page was passed
abbrev pub DrawMoves : OpenImage → (FileAndModel → Drawn → FileAndModel → Drawn → Type 0) → Bool
    → FileState → FileState → OpenImage → Type 0
DrawMoves i Drew apart old new j =
    (known : Bool) (s : FileAndModel) (before : List (List ℕ)) → s.file ≡ old
    → StandsIfKnown known s
    → (t : FileAndModel) × ((after : List (List ℕ)) × ((t.file ≡ new)
    × (Drew s (record { image = i; samples = before }) t (record { image = j; samples = after })
    × (StandsIfKnown known t × (Grows s.model t.model
    × (apart ≡ true → RecordsImage s.file.kind s.model i before
    → RecordsImage s.file.kind t.model j after))))))

-- one step of an image
abbrev pub KeepsImage : OpenImage → ImageStep → Result StepReply TiffError → FileState → FileState
    → OpenImage → Type 0
KeepsImage i step r =
    DrawMoves i (λ s before t after. ImageStepped s before step r t after) (is_apart step r)

-- all steps of an image
abbrev pub StepsDraw : OpenImage → List ImageStep → List (Result StepReply TiffError) → FileState
    → FileState → OpenImage → Type 0
StepsDraw i steps rs =
    DrawMoves i (λ s before t after. AllStepped ImageStepped s before steps rs t after)
    (are_apart steps rs)

-- ---- ends

-- An end leads to a standing and to the offsets of the directory that it finishes. The link of that
-- directory is a link of the model, and so is the last link of the IFD chain, if it was one before
-- the end.
abbrev pub EndMoves : (FileAndModel → FileAndModel → Option Offsets → Type 0) → Option ℕ → FileState
    → FileState
    → (FileAndModel → FileAndModel → Option Offsets → Type 0) → Type 0
EndMoves Ended parent old new Held =
    (known : Bool) (s : FileAndModel) → s.file ≡ old → StandsIfKnown known s
    → HasLink known s parent
    → (t : FileAndModel)
    × ((offset : Option Offsets)
    × ((t.file ≡ new) × (Ended s t offset × (StandsIfKnown known t × (Grows s.model t.model
    × (((o : Offsets) → offset ≡ Some o → IsLink t.file.kind t.model o.link)
    × ((IsLink s.file.kind s.model s.file.chain → IsLink t.file.kind t.model t.file.chain)
    × Held s t offset)))))))

-- what the model records of a finished image, and that a file that shows the recorded image shows
-- the finished one
pub record IsHeld (s : FileAndModel) (f : FinishedImage) : Type 0 where
  pub image : OpenImage
  pub samples : List (List ℕ)
  pub held : HoldsEnded s.file.kind s.model image samples f.offset
  pub shown : (file : List ℕ) → Shows s.file.kind file f.offset (image_with image samples)
      → Shows s.file.kind file f.offset f.image

-- the model records an image that ended with all its chunks, if it recorded the open image
abbrev pub ImageHeld : OpenImage → ImageEnd → FileAndModel → FileAndModel → Option Offsets → Type 0
ImageHeld i end s t offset =
    (before samples : List (List ℕ)) (o : Offsets) → RecordsImage s.file.kind s.model i before
    → offset ≡ Some o
    → ended_samples (record { image = i; samples = before }) end ≡ Some samples
    → IsHeld t (record { offset = o.pointer; image = image_with i samples })

-- ---- jobs

-- What holds of a run after each job: the file contains the model, if `known`; then the last link
-- of the IFD chain is a link of the model; the link of each directory whose offsets were returned
-- is a link of the model; and the model records each image that is finished with all its chunks.
pub record IsSound (known : Bool) (run : Run) : Type 0 where
  pub stands : StandsIfKnown known run.standing
  pub chain : HasLink known run.standing (Some run.standing.file.chain)
  pub offsets : (o : Offsets) → In (Some o) run.offsets
      → IsLink run.standing.file.kind run.standing.model o.link
  pub images : (f : FinishedImage) → In f run.images → IsHeld run.standing f

-- the offsets that the ends of jobs returned
abbrev pub offsets_answered : List JobReply → List (Option Offsets)
offsets_answered replies = map (λ reply. offsets_in reply.last) replies

-- a job is run after the jobs that have these replies
abbrev pub JobMoves : Job → List JobReply → JobReply → FileState → FileState → Type 0
JobMoves job earlier reply old new =
    (known : Bool) (run : Run) → run.standing.file ≡ old → run.offsets ≡ offsets_answered earlier
    → IsSound known run
    → (after : Run) × ((after.standing.file ≡ new) × (JobRan run job reply after
    × (IsSound known after × (after.offsets ≡ offsets_answered (earlier ++ reply ∷ [])))))
