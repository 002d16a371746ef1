-- What a call may return if it allocates only when no other error comes first.
use Rattle.std.specs.Prelude.{ℕ, ◌<◌, Option, None, Some, Result, Ok, Err, IsOk}
use Rattle.tiff_base.specs.declared.error.TiffError.{TiffError}
use Rattle.tiff_base.specs.declared.error.TiffError.TheVariants.{IoError, LimitsExceeded, UnsupportedError}
use Rattle.tiff_base.specs.declared.error.TiffUnsupportedError.TheVariants.{InconsistentBitsPerSample, InterpretationWithBits, UnsupportedSampleFormat}
use Rattle.tiff_base.specs.declared.io.IoKind.TheVariants.{UnexpectedEof}
use Rattle.tiff_base.specs.Answers.{AnswersBut}

-- The result of a call that reads a source: `OutOfMemory` only if the defined result is not an
-- error.
abbrev pub AnswersOrNoMemory : {X Y : Type 0} → (X → Y) → Result X TiffError → Result Y TiffError → ℕ
    → ℕ → Type 0
AnswersOrNoMemory view result given before after =
    AnswersBut (IsOk given) (before < after) view result given

-- The result of a call that reads no source: `OutOfMemory` only if the defined result is not an
-- error.
abbrev pub GivesSparingly : {X Y : Type 0} → (X → Y) → Result X TiffError → Result Y TiffError
    → Type 0
GivesSparingly view result given = AnswersBut (IsOk given) ⊥ view result given

-- an error other than an exceeded limit and the end of the source
abbrev pub IsOfRead : TiffError → Type 0
IsOfRead LimitsExceeded = ⊥
IsOfRead (IoError UnexpectedEof) = ⊥
IsOfRead e = Unit {0}

-- the defined result is neither an exceeded limit nor the end of the source
abbrev pub IsWithinLimits : {Y : Type 0} → Result Y TiffError → Type 0
IsWithinLimits (Ok y) = Unit {0}
IsWithinLimits (Err e) = IsOfRead e

-- The result of a call that reads a source and may refuse what it reads: `OutOfMemory` only if the
-- defined result is neither an exceeded limit nor the end of the source.
abbrev pub AnswersWithin : {X Y : Type 0} → (X → Y) → Result X TiffError → Result Y TiffError → ℕ
    → ℕ → Type 0
AnswersWithin view result given before after =
    AnswersBut (IsWithinLimits given) (before < after) view result given

-- the defined result finds something, or is an error other than an exceeded limit and the end of
-- the source
abbrev pub IsFoundWithin : {Y : Type 0} → Result (Option Y) TiffError → Type 0
IsFoundWithin (Ok None) = ⊥
IsFoundWithin (Ok (Some y)) = Unit {0}
IsFoundWithin (Err e) = IsOfRead e

-- an error that contains a list, which takes memory
abbrev pub HasList : TiffError → Type 0
HasList (UnsupportedError (InterpretationWithBits meaning bits)) = Unit {0}
HasList (UnsupportedError (UnsupportedSampleFormat formats)) = Unit {0}
HasList (UnsupportedError (InconsistentBitsPerSample bits)) = Unit {0}
HasList e = ⊥

-- the defined result is an error that contains a list
abbrev pub IsListFault : {Y : Type 0} → Result Y TiffError → Type 0
IsListFault (Ok y) = ⊥
IsListFault (Err e) = HasList e

-- the defined result is not an error, or is an error that contains a list
abbrev pub IsOkOrList : {Y : Type 0} → Result Y TiffError → Type 0
IsOkOrList (Ok y) = Unit {0}
IsOkOrList (Err e) = HasList e
