-- How a call of the encoder ends: as specified, or with a failed sink, or out of memory (this
-- project's).
use Rattle.std.specs.Prelude.{◌≡◌, ℕ, ◌+◌, ◌<◌, ◌≤◌, ◌⊎◌, List, [], ◌∷◌, ◌++◌, length, take, Some, None, Result, Ok, Err}
use Rattle.tiff_base.specs.declared.error.TiffError.{TiffError}
use Rattle.tiff_base.specs.declared.error.TiffError.TheVariants.{OutOfMemory}
use Rattle.tiff_base.specs.declared.io.SinkFault.{SinkFault}
use Rattle.tiff_base.specs.Number.{le}
use Rattle.tiff_base.specs.SourceAndSink.{put, sink_error}
use Rattle.tiff_value.specs.FileBytes.{offset_len}
use Rattle.tiff_value.specs.WriteOps.{WriteOp, Linked, all_appended}
use Rattle.tiff_encode.specs.Machine.{FileState, WriteOutcome}

-- The result of the call, which can be an error, and the file after it are as specified.
pub record EndsAsDefined {A : Type 0} (told : WriteOutcome A) (r : Result A TiffError)
    (new : FileState) : Type 0 where
  pub answer : told.answer ≡ r
  pub state : new ≡ told.next

-- The sink failed while the call appended: the file has the first of the bytes that the call
-- appends, nothing is written after them, and the encoder keeps the error of the sink.
pub record AppendFailed (ops : List WriteOp) (e : TiffError) (old new : FileState) : Type 0 where
  pub fresh : old.fault ≡ None
  pub fault : SinkFault
  pub answer : e ≡ sink_error fault
  pub count : ℕ
  pub within : count < length (all_appended old.kind ops)
  pub state : new
      ≡ record old {
        bytes = old.bytes ++ take count (all_appended old.kind ops);
        failures = old.failures + 1;
        fault = Some fault;
      }

-- All bytes were appended, and the sink failed while the last write, a link, was made: the link has
-- the first of the new bytes.
pub record LinkWriteFailed (ops : List WriteOp) (e : TiffError) (old new : FileState) : Type 0 where
  pub fresh : old.fault ≡ None
  pub fault : SinkFault
  pub answer : e ≡ sink_error fault
  pub before : List WriteOp
  pub offset : ℕ
  pub target : ℕ
  pub last : ops ≡ before ++ Linked offset target ∷ []
  pub count : ℕ
  pub within : count < offset_len old.kind
  pub state : new
      ≡ record old {
        bytes = put (old.bytes ++ all_appended old.kind before) offset
            (take count (le (offset_len old.kind) target));
        failures = old.failures + 1;
        fault = Some fault;
      }

-- The call returns no error, or it made some writes before the error: an error that applies before
-- the first write is returned before memory is allocated.
abbrev pub HasBegun : {A : Type 0} → Result A TiffError → List WriteOp → Type 0
HasBegun (Err e) [] = ⊥
HasBegun (Err e) (op ∷ ops) = Unit {0}
HasBegun (Ok x) ops = Unit {0}

-- The encoder itself is out of memory: the file has the first of the bytes that the call appends,
-- unused.
pub record IsShortOfMemory {A : Type 0} (told : WriteOutcome A) (e : TiffError)
    (old new : FileState) : Type 0 where
  pub fresh : old.fault ≡ None
  pub fault : e ≡ OutOfMemory
  pub begun : HasBegun told.answer told.ops
  pub count : ℕ
  pub within : count ≤ length (all_appended old.kind told.ops)
  pub state : new ≡ record old { bytes = old.bytes ++ take count (all_appended old.kind told.ops) }

-- Why a call returns an error: as specified; or the sink failed; or the encoder is out of memory.
abbrev pub CallFails : {A : Type 0} → WriteOutcome A → TiffError → FileState → FileState → Type 0
CallFails told e old new =
    EndsAsDefined told (Err e) new
    ⊎ (AppendFailed told.ops e old new
    ⊎ (LinkWriteFailed told.ops e old new ⊎ IsShortOfMemory told e old new))

-- The result of a call, as `view` maps it, and the file before and after the call.
abbrev pub Ends : {X Y : Type 0} → (X → Y) → WriteOutcome Y → Result X TiffError → FileState
    → FileState → Type 0
Ends view told (Ok x) old new = EndsAsDefined told (Ok (view x)) new
Ends view told (Err e) old new = CallFails told e old new

-- A call that returns an error, and the file before and after it; nothing is stated of a call that
-- succeeds.
abbrev pub EndsRefused : {X Y : Type 0} → WriteOutcome Y → Result X TiffError → FileState
    → FileState → Type 0
EndsRefused told (Ok x) old new = Unit {0}
EndsRefused told (Err e) old new = CallFails told e old new

-- A call, and the file before and after it, where the caller drops the result of a call that
-- succeeds.
abbrev pub EndsSilently : {X Y : Type 0} → WriteOutcome Y → Result X TiffError → FileState
    → FileState → Type 0
EndsSilently {Y = Y} told (Ok x) old new = (y : Y) × EndsAsDefined told (Ok y) new
EndsSilently told (Err e) old new = CallFails told e old new
