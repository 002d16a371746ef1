-- The samples of a job (this project's).
use Rattle.std.specs.Prelude.{◌≡◌, ℕ, ◌%◌, ◌==◌, List, length, if◌then◌else◌, Result, Ok, Err}
use Rattle.tiff_base.specs.declared.error.TiffError.{TiffError}
use Rattle.tiff_base.specs.declared.error.TiffError.TheVariants.{UsageError}
use Rattle.tiff_base.specs.declared.error.UsageError.TheVariants.{MismatchedEntryLength}
use Rattle.tiff_base.specs.declared.tags.«Type».{«Type»}
use Rattle.tiff_base.specs.Types.{type_size}
use Rattle.tiff_page.specs.Pixels.{numbers_in}
use Rattle.tiff_encode.specs.declared.encoder.job_samples.CutSamples.{CutSamples}
use Rattle.tiff_encode.specs.declared.encoder.job_samples.CutSamples.TheVariants.{Lent, Own}
use Rattle.tiff_encode.specs.declared.encoder.job_samples.SamplesHeld.{SamplesHeld}
use Rattle.tiff_encode.specs.declared.encoder.job_samples.SamplesHeld.TheVariants.{Numbers, Bytes}

-- the samples that values of a field type are, the lowest byte of each first; an error where a part
-- of one is left over
abbrev pub samples_of_type : «Type» → List ℕ → Result (List ℕ) TiffError
samples_of_type type bytes =
    if length bytes % type_size type == 0 then Ok (numbers_in (type_size type) bytes)
    else Err (UsageError (MismatchedEntryLength type (length bytes)))

-- the samples that are held as numbers or as bytes
abbrev pub held_numbers : SamplesHeld → List ℕ
held_numbers (Numbers numbers) = numbers.items
held_numbers (Bytes type bytes) = numbers_in (type_size type) bytes.now

-- held bytes are whole values
abbrev pub IsWhole : SamplesHeld → Type 0
IsWhole (Numbers numbers) = Unit {0}
IsWhole (Bytes type bytes) = length bytes.now % type_size type ≡ 0

-- the samples in a number type
abbrev pub cut_items : {S : Type 0} → CutSamples S → List S
cut_items (Lent samples) = samples.now
cut_items (Own samples) = samples.items
