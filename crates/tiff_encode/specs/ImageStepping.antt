-- The replies to the steps of a job (this project's).
use Rattle.std.specs.Prelude.{◌≡◌, ℕ, true, List, Result, Ok, Err}
use Rattle.tiff_base.specs.declared.error.TiffError.{TiffError}
use Rattle.tiff_base.specs.declared.tags.ResolutionUnit.{ResolutionUnit}
use Rattle.tiff_encode.specs.declared.encoder.script.StepReply.{StepReply}
use Rattle.tiff_encode.specs.declared.encoder.script.StepReply.TheVariants as reply
use Rattle.tiff_encode.specs.Machine.{FileState, OpenImage}
use Rattle.tiff_encode.specs.JobValues.{cut_to}
use Rattle.tiff_encode.specs.Jobs as jobs
use Rattle.tiff_encode.specs.Stepping.{DrawMoves}

-- the reply to a call that returns `()`
abbrev pub reply_to : Result (Unit {0}) TiffError → Result StepReply TiffError
reply_to (Ok x) = Ok reply.Nothing
reply_to (Err e) = Err e

-- the reply to a call that returns a value
abbrev pub reply_by : {A : Type 0} → (A → StepReply) → Result A TiffError
    → Result StepReply TiffError
reply_by view (Ok x) = Ok (view x)
reply_by view (Err e) = Err e

-- `write_strip` and `write_chunk` of samples, each of which is the lowest bits of a number
abbrev pub StripDraws : OpenImage → List ℕ → Result StepReply TiffError → FileState → FileState
    → OpenImage → Type 0
StripDraws i numbers r =
    DrawMoves i
    (λ s before t after.
    jobs.StripStepIfFound before (cut_to before.image.size numbers) r s t after) true

abbrev pub ChunkDraws : OpenImage → List ℕ → Result StepReply TiffError → FileState → FileState
    → OpenImage → Type 0
ChunkDraws i numbers r =
    DrawMoves i
    (λ s before t after.
    jobs.ChunkStepIfFound before (cut_to before.image.size numbers) r s t after) true

-- `resolution`
abbrev pub ResolutionDraws : OpenImage → ResolutionUnit → ℕ × ℕ → Result StepReply TiffError
    → FileState → FileState → OpenImage → Type 0
ResolutionDraws i u value r =
    DrawMoves i
    (λ s before t after. (after.samples ≡ before.samples)
    × jobs.Resolves before.image u value r s t after.image)
    true
