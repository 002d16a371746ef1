-- What a file that contains a model contains after a call (this project's).
use Rattle.std.specs.Prelude.{ℕ, ◌^◌, ◌<◌, ◌⊎◌, length, Result, Ok, Err}
use Rattle.tiff_base.specs.declared.error.TiffError.{TiffError}
use Rattle.tiff_value.specs.Data.{FieldData, IsWhole}
use Rattle.tiff_value.specs.Model.{Model, FileContains, with_link}
use Rattle.tiff_value.specs.WriteOps.{model_after}
use Rattle.tiff_encode.specs.Machine.{FileState, WriteOutcome}
use Rattle.tiff_encode.specs.Ends.{LinkWriteFailed}

-- A write of a link failed partway: the model has all writes before it, and the link has some
-- number.
pub record LeavesTorn {A : Type 0} (told : WriteOutcome A) (e : TiffError) (old new : FileState)
    (m : Model) : Type 0 where
  pub torn : LinkWriteFailed told.ops e old new
  pub holds : ℕ
  pub stands : FileContains old.kind new.bytes
      (with_link old.kind (model_after old.kind old.bytes m torn.before) torn.offset holds)

-- A call that appends: the model has all its writes if it succeeds; the model doesn't change if it
-- returns an error.
abbrev pub Leaves : {X Y : Type 0} → WriteOutcome Y → Result X TiffError → FileState → FileState
    → Model → Type 0
Leaves told (Ok x) old new m = FileContains old.kind new.bytes (model_after old.kind old.bytes m told.ops)
Leaves told (Err e) old new m = FileContains old.kind new.bytes m

-- `LeavesRefused`: a call that returns an error doesn't change the model; nothing is stated of a
-- call that succeeds. `LeavesLinked`: a call whose last write can be that of a link.
abbrev pub LeavesRefused : {X : Type 0} → Result X TiffError → FileState → FileState → Type 0
LeavesRefused (Ok x) old new = Unit {0}
LeavesRefused (Err e) old new = (m : Model) → FileContains old.kind old.bytes m
    → FileContains old.kind new.bytes m

abbrev pub LeavesLinked : {X Y : Type 0} → WriteOutcome Y → Result X TiffError → FileState
    → FileState → Model → Type 0
LeavesLinked told (Ok x) old new m =
    FileContains old.kind new.bytes (model_after old.kind old.bytes m told.ops)
LeavesLinked told (Err e) old new m = FileContains old.kind new.bytes m ⊎ LeavesTorn told e old new m

-- A value for a field: it has as many bytes as its count says, and fewer than 2^64.
abbrev pub IsGiven : Result FieldData TiffError → Type 0
IsGiven (Ok d) = IsWhole d × (length d.bytes < 2 ^ 64)
IsGiven (Err e) = Unit {0}
