-- An open directory takes the fields of another directory.
use Rattle.std.specs.Prelude.{◌≡◌, ℕ, List, take, Result, MatchResult}
use Rattle.tiff_base.specs.declared.error.TiffError.{TiffError}
use Rattle.tiff_base.specs.declared.error.TiffError.TheVariants.{OutOfMemory}
use Rattle.tiff_base.specs.Field.{Field}
use Rattle.tiff_encode.specs.Machine.{OpenDirectory}
use Rattle.tiff_encode.specs.Calls.{extend_from}

module _ {A : Type 0} where
  -- The directory has all given fields, which replace its own fields of the same tags; or memory is
  -- out, and it has the fields before the one that failed.
  abbrev pub Extends : List (ℕ × Field) → OpenDirectory → OpenDirectory → Result A TiffError
      → Type 0
  Extends given old new r =
      MatchResult r
      (λ _. new ≡ extend_from old given)
      (λ e. (e ≡ OutOfMemory) × ((count : ℕ) × (new ≡ extend_from old (take count given))))
