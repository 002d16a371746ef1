-- Rows of samples appended as differences.
use Rattle.std.specs.Prelude.{◌≡◌, ℕ, ◌^◌, List, ◌++◌, map, if◌then◌else◌, Result, Ok, Err, MatchResult}
use Rattle.tiff_base.specs.declared.error.TiffError.{TiffError}
use Rattle.tiff_base.specs.declared.error.TiffError.TheVariants.{UsageError, OutOfMemory}
use Rattle.tiff_base.specs.declared.error.UsageError.TheVariants.{PredictorIncompatible}
use Rattle.tiff_base.specs.declared.tags.«Type».{«Type»}
use Rattle.std.specs.List.{flat_map}
use Rattle.tiff_base.specs.declared.tags.Predictor.{Predictor}
use Rattle.tiff_base.specs.Number.{le}
use Rattle.tiff_base.specs.Types.{type_size}
use Rattle.tiff_value.specs.declared.encoder.chunk.SampleRows.{SampleRows}
use Rattle.tiff_value.specs.ColorType.{sample_number}
use Rattle.tiff_value.specs.Differences.{differences, is_floating, predicted_row}

-- the bytes of rows of samples of a type, `row` samples each and `stride` samples a pixel: each
-- number with its least significant byte first, and as a difference if the predictor says so
abbrev pub predicted_bytes : {A : Type 0} → «Type» → (A → ℕ) → Predictor → ℕ → ℕ → List A → List ℕ
predicted_bytes type bits predictor row stride samples =
    flat_map (le (type_size type))
    (differences predictor (256 ^ type_size type) row stride
    (map (sample_number (type_size type) bits) samples))

abbrev pub row_bytes : {A : Type 0} → «Type» → (A → ℕ) → SampleRows A → List ℕ
row_bytes type bits rows =
    predicted_bytes type bits rows.predictor rows.row rows.stride rows.samples.now

-- what is appended for a row of numbers of a type in memory: their differences modulo their width,
-- with signed numbers as their bits; floating-point numbers have no differences
abbrev pub row_of_type : «Type» → ℕ → List ℕ → Result (List ℕ) TiffError
row_of_type type stride row =
    if is_floating type then Err (UsageError PredictorIncompatible)
    else Ok (predicted_row (256 ^ type_size type) stride row)

-- The list has its earlier items, followed by samples of these bits.
pub record IsAppended {A : Type 0} (bits : A → ℕ) (numbers : List ℕ) (old new : List A) : Type 0
  where
    pub added : List A
    pub whole : new ≡ old ++ added
    pub same : map bits added ≡ numbers

module _ {A B : Type 0} where
  -- The defined numbers are appended to the list. If they are an error, or if there is no memory,
  -- the list is unchanged.
  abbrev pub AppendsRow : (A → ℕ) → Result (List ℕ) TiffError → List A → List A → Result B TiffError
      → Type 0
  AppendsRow bits (Ok numbers) old new r =
      MatchResult r (λ _. IsAppended bits numbers old new) (λ e. (e ≡ OutOfMemory) × (new ≡ old))
  AppendsRow bits (Err fault) old new r = MatchResult r (λ _. ⊥) (λ e. (e ≡ fault) × (new ≡ old))
