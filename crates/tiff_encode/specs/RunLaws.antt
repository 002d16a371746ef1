-- The laws that a call and a run depend only on the state before them.
use Rattle.std.specs.Prelude.{◌≡◌, ℕ, ◌^◌, ◌<◌, List, Result, Ok}
use Rattle.std.specs.FinMap.{len}
use Rattle.tiff_base.specs.declared.error.TiffError.{TiffError}
use Rattle.tiff_base.specs.Field.{Field}
use Rattle.tiff_encode.specs.declared.encoder.settings.Compression.TheVariants.{Uncompressed}
use Rattle.tiff_encode.specs.Machine.{FileState, OpenDirectory, OpenImage, WriteOutcome}
use Rattle.tiff_encode.specs.Calls.{Offsets, finish, new_offset}
use Rattle.tiff_encode.specs.Stored.{IsChunkStored}
use Rattle.tiff_encode.specs.Jobs.{FileAndModel, IsDone}

-- a call that doesn't fail has one result, and leaves one file and one model
abbrev pub IsOneStep : Type 0 → Type 0
IsOneStep A = (told : WriteOutcome A) (r s : Result A TiffError) (old new other : FileAndModel)
    → IsDone told r old new → IsDone told s old other → (r ≡ s) × (new ≡ other)

-- a call has one result, of each type: a field, an offset, an open directory or image, offsets
abbrev pub OneStep : Type 0
OneStep = IsOneStep Field
    × (IsOneStep ℕ × (IsOneStep OpenDirectory × (IsOneStep OpenImage × IsOneStep Offsets)))

-- a chunk that isn't compressed is stored in one way
abbrev pub OneStored : Type 0
OneStored = (i : OpenImage) (samples stored other : List ℕ) → i.compression ≡ Uncompressed
    → IsChunkStored i stored samples
    → IsChunkStored i other samples → stored ≡ other

-- `DirectoryOffset::new`, of the offset and the number of entries of a finished directory, returns
-- the offsets that the end of the directory returned
abbrev pub OffsetsAgree : Type 0
OffsetsAgree = (file : FileState) (d : OpenDirectory) (offsets : Offsets)
    → (finish d file).answer ≡ Ok offsets
    → 0 < offsets.pointer → offsets.link < 2 ^ 64
    → new_offset file.kind offsets.pointer (len d.fields) ≡ Ok offsets
