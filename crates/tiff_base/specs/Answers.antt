-- What a call may return.
use Rattle.std.specs.Prelude.{◌≡◌, ℕ, ◌<◌, ◌≤◌, ◌||◌, Bool, true, false, Result, Ok, Err}
use Rattle.tiff_base.specs.declared.error.TiffError.{TiffError}
use Rattle.tiff_base.specs.declared.error.TiffError.TheVariants.{IoError, OutOfMemory}
use Rattle.tiff_base.specs.declared.io.IoKind.TheVariants.{Device}

-- the error that memory is out
abbrev pub is_memory : TiffError → Bool
is_memory OutOfMemory = true
is_memory e = false

-- the error that the device failed
abbrev pub is_device : TiffError → Bool
is_device (IoError Device) = true
is_device e = false

-- The reason for an error that a call returns: `OutOfMemory` is allowed if `wanting` holds,
-- `IoError(Device)` if `failed` holds, and any other error only if `given` holds.
pub record IsCause (wanting failed : Type 0) (e : TiffError) (given : Type 0) : Type 0 where
  pub memory : is_memory e ≡ true → wanting
  pub device : is_device e ≡ true → failed
  pub other : is_memory e || is_device e ≡ false → given

-- The result of a call, seen by `view`, is the defined result, except when memory or the device
-- fails.
abbrev pub AnswersBut : {X Y : Type 0} → Type 0 → Type 0 → (X → Y) → Result X TiffError
    → Result Y TiffError → Type 0
AnswersBut wanting failed view (Ok x) given = given ≡ Ok (view x)
AnswersBut wanting failed view (Err e) given = IsCause wanting failed e (given ≡ Err e)

-- The result of a call that reads a source, and may allocate. The source has `before` failures
-- before the call and `after` failures after it.
abbrev pub Answers : {X Y : Type 0} → (X → Y) → Result X TiffError → Result Y TiffError → ℕ → ℕ
    → Type 0
Answers view result given before after = AnswersBut (Unit {0}) (before < after) view result given

-- The result of a call that reads a source and allocates nothing.
abbrev pub AnswersWithoutMemory : {X Y : Type 0} → (X → Y) → Result X TiffError → Result Y TiffError
    → ℕ → ℕ → Type 0
AnswersWithoutMemory view result given before after =
    AnswersBut ⊥ (before < after) view result given

-- The result of a call that reads no source, and may allocate.
abbrev pub AnswersWithoutSource : {X Y : Type 0} → (X → Y) → Result X TiffError → Result Y TiffError
    → Type 0
AnswersWithoutSource view result given = AnswersBut (Unit {0}) ⊥ view result given

-- The result of a call that neither reads a source nor allocates.
abbrev pub Gives : {X Y : Type 0} → (X → Y) → Result X TiffError → Result Y TiffError → Type 0
Gives view result given = AnswersBut ⊥ ⊥ view result given

-- one step, and the next step if the first returns no error
infixl 10 ◌>>=◌
abbrev pub ◌>>=◌ : {A B : Type 0} → Result A TiffError → (A → Result B TiffError)
    → Result B TiffError
(Ok x) >>= f = f x
(Err e) >>= f = Err e

-- A read of the source failed only if the call returns `IoError(Device)`: no failed read is
-- ignored.
abbrev pub NoneSwallowed : {X : Type 0} → Result X TiffError → ℕ → ℕ → Type 0
NoneSwallowed (Ok x) before after = after ≡ before
NoneSwallowed (Err e) before after = is_device e ≡ false → after ≡ before

-- not the error `IoError(Device)`
abbrev pub IsNotDevice : TiffError → Type 0
IsNotDevice e = is_device e ≡ false

-- A call asks a source for no other bytes: if these bytes are readable, it does not return
-- `IoError(Device)`. No failed read is ignored. A call that asked for another byte would therefore
-- fail on a source where only these bytes are readable.
abbrev pub ReadsOnly : {X : Type 0} → Type 0 → Result X TiffError → Type 0
ReadsOnly readable (Ok x) = Unit {0}
ReadsOnly readable (Err e) = readable → IsNotDevice e

-- What a call that borrows a source leaves of it, with the result of the call: the contents of the
-- source are the same, and its number of failures does not shrink. The number grows only with
-- `IoError(Device)`.
pub record IsKept {S W X : Type 0} (contents_of : S → W) (failures_of : S
    → ℕ) (result : Result X TiffError) (old new : S) : Type 0 where
  pub contents : contents_of new ≡ contents_of old
  pub failures : failures_of old ≤ failures_of new
  pub swallowed : NoneSwallowed result (failures_of old) (failures_of new)

-- A source or a sink that a caller handed over failed: it reached some state with the same contents
-- and more failures.
pub record FailsFrom {S W : Type 0} (contents_of : S → W) (failures_of : S → ℕ) (old : S) : Type 0 where
  pub last : S
  pub contents : contents_of last ≡ contents_of old
  pub grew : failures_of old < failures_of last
