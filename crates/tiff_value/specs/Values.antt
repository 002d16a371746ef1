-- What a written value is, and what its write does.
use Rattle.std.specs.Prelude.{◌≡◌, ℕ, ◌*◌, ◌^◌, ◌-◌, ◌⊎◌, ◌++◌, min, None, List, Result, Ok, Err, MatchResult}
use Rattle.tiff_base.specs.declared.error.TiffError.{TiffError}
use Rattle.tiff_base.specs.declared.error.TiffError.TheVariants.{FormatError, OutOfMemory}
use Rattle.tiff_base.specs.declared.error.TiffFormatError.TheVariants.{InvalidTag}
use Rattle.tiff_base.specs.declared.tags.«Type».{«Type»}
use Rattle.tiff_base.specs.Types.{type_size}
use Rattle.tiff_value.specs.Data.{FieldData, IsWhole}
use Rattle.tiff_value.specs.Written.{Written, writer_after_counted, IsStopped, IsCut}

-- the data of `count` values of a type, from their bytes
abbrev pub values_in : «Type» → ℕ → List ℕ → FieldData
values_in type count bytes = record { field_type = type; count = count; bytes = bytes }

-- The field has `count` values of a type, with as many bytes as these have; or the value is refused
-- as a text that can't be written.
abbrev pub IsValue : «Type» → ℕ → Result FieldData TiffError → Type 0
IsValue type count (Ok d) = (d.field_type ≡ type) × (d.count ≡ count) × IsWhole d
IsValue type count (Err e) = e ≡ FormatError InvalidTag

-- a field can have the value
abbrev pub IsWritable : Result FieldData TiffError → Type 0
IsWritable (Ok d) = Unit {0}
IsWritable (Err e) = ⊥

-- The bytes of a value follow the earlier contents of the list, or there is no memory for them. A
-- value that no field can have is refused with its error.
abbrev pub Pushes : {A : Type 0} → Result FieldData TiffError → List ℕ → List ℕ → Result A TiffError
    → Type 0
Pushes (Ok d) old new r = MatchResult r (λ _. new ≡ old ++ d.bytes) (λ e. e ≡ OutOfMemory)
Pushes (Err given) old new r = MatchResult r (λ _. ⊥) (λ e. e ≡ given)

-- the number of bytes of `count` values of a type, at most 2^64 - 1
abbrev pub byte_count : ℕ → «Type» → ℕ
byte_count count type = min (count * type_size type) (2 ^ 64 - 1)

-- There is no memory for the bytes of a value that a field can have: nothing is done.
pub record IsWanting (e : TiffError) (old new : Written) : Type 0 where
  pub fresh : old.fault ≡ None
  pub answer : e ≡ OutOfMemory
  pub same : new ≡ old

-- The field can't have the value, for this error: nothing is done.
pub record ValueIsRefused (given e : TiffError) (old new : Written) : Type 0 where
  pub fresh : old.fault ≡ None
  pub answer : e ≡ given
  pub same : new ≡ old

module _ {A : Type 0} where
  -- The bytes of a value are written as they are; or an earlier write failed; or else there is no
  -- memory for them, or their write fails. A value that no field can have is refused, unless an
  -- earlier write failed.
  abbrev pub WritesValue : Result FieldData TiffError → Written → Written → Result A TiffError
      → Type 0
  WritesValue (Ok d) old new r =
      MatchResult r
      (λ _. (old.fault ≡ None) × (new ≡ writer_after_counted old d.bytes))
      (λ e. IsStopped e old new ⊎ (IsWanting e old new ⊎ IsCut d.bytes e old new))
  WritesValue (Err given) old new r =
      MatchResult r (λ _. ⊥) (λ e. IsStopped e old new ⊎ ValueIsRefused given e old new)
