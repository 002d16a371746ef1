-- Lists of calls that are made and of jobs that are run, with their replies as lines of text.
use Rattle.std.specs.Prelude.{◌≡◌, ◌⊎◌, ℕ, List, [], Option, Result, Ok, Err}
use Rattle.tiff_base.specs.declared.error.TiffError.{TiffError}
use Rattle.tiff_base.specs.declared.error.TiffError.TheVariants.{OutOfMemory}
use Rattle.tiff_base.specs.declared.io.SinkFault.{SinkFault}
use Rattle.tiff_base.specs.declared.tags.FileKind.{FileKind}
use Rattle.tiff_decode.specs.declared.script.Call.{Call}
use Rattle.tiff_decode.specs.declared.script.Reply.{Reply}
use Rattle.tiff_decode.specs.Machine.{Decoding}
use Rattle.tiff_decode.specs.Steps.{Ran}
use Rattle.tiff_encode.specs.declared.encoder.script.Job.{Job}
use Rattle.tiff_encode.specs.declared.encoder.script.JobReply.{JobReply}
use Rattle.tiff_encode.specs.Jobs.{RefusesJobs, RunsJobs}

-- All calls were made, with some list of replies. The only error is out of memory; then no call was
-- made, or all were.
abbrev pub LinesOfCalls : {X : Type 0} → Decoding → List Call → Result X TiffError → Decoding
    → Type 0
LinesOfCalls old calls (Ok lines) new = (replies : List Reply) × Ran old calls [] replies new
LinesOfCalls old calls (Err e) new =
    (e ≡ OutOfMemory) × ((new ≡ old) ⊎ ((replies : List Reply) × Ran old calls [] replies new))

-- a sink: `contents`, the bytes that it took; `failures`, how many of its writes failed; and
-- `fault`, what the last one returned if it failed
module _ {W : Type 0} (contents : W → List ℕ) (failures : W → ℕ) (fault : W → Option SinkFault) where
  -- All jobs were run, with some list of replies. The errors are out of memory, and that of a sink
  -- that failed while the header was written.
  abbrev pub LinesOfJobs : {X : Type 0} → FileKind → List Job → W → Result (W × X) TiffError
      → Type 0
  LinesOfJobs kind jobs sink (Ok last) = (replies : List JobReply)
      × RunsJobs contents failures fault kind jobs sink [] replies (Ok last.0)
  LinesOfJobs kind jobs sink (Err e) = RefusesJobs contents failures fault kind sink e
