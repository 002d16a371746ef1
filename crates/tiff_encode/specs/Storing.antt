-- How a chunk of samples is written (this project's).
use Rattle.std.specs.Prelude.{◌≡◌, ℕ, ◌⊎◌, List, length, Option, Some, None, Result, Ok, Err}
use Rattle.tiff_base.specs.declared.error.TiffError.{TiffError}
use Rattle.tiff_base.specs.declared.error.TiffError.TheVariants.{OutOfMemory}
use Rattle.tiff_encode.specs.Machine.{FileState, OpenImage, WriteOutcome, WriteCall}
use Rattle.tiff_encode.specs.Ends.{EndsAsDefined, AppendFailed}
use Rattle.tiff_encode.specs.Stored.{IsChunkStored}

-- A chunk that is stored as given bytes has the specified outcome; or it is refused, or the sink
-- fails; or memory is out, and nothing is done. After an error the image doesn't change.
abbrev pub AppendsChunk : {A : Type 0} → WriteOutcome OpenImage → OpenImage → Result A TiffError
    → FileState → FileState → OpenImage → Type 0
AppendsChunk told i (Ok x) old new next = EndsAsDefined told (Ok next) new
AppendsChunk told i (Err e) old new next =
    (next ≡ i) × (EndsAsDefined told (Err e) new
    ⊎ (AppendFailed told.ops e old new ⊎ ((e ≡ OutOfMemory) × (new ≡ old))))

-- `write_strip` or `write_chunk`, of a given number of samples that are stored as some bytes
module _ {A : Type 0} (call : OpenImage → ℕ → List ℕ → WriteCall OpenImage) where
  -- A chunk of samples is stored as bytes that can store it; or the call with such bytes is
  -- refused, or the sink fails; or memory is out, and nothing is done. After an error the image
  -- doesn't change.
  abbrev pub StoresChunk : OpenImage → List ℕ → Result A TiffError → FileState → FileState
      → OpenImage → Type 0
  StoresChunk i samples (Ok x) old new next =
      (stored : List ℕ)
      × (IsChunkStored i stored samples
      × EndsAsDefined (call i (length samples) stored old) (Ok next) new)
  StoresChunk i samples (Err e) old new next =
      (next ≡ i) × (((e ≡ OutOfMemory) × (new ≡ old))
      ⊎ ((stored : List ℕ) × (IsChunkStored i stored samples
      × (EndsAsDefined (call i (length samples) stored old) (Err e) new
      ⊎ AppendFailed (call i (length samples) stored old).ops e old new))))

  -- the call returns an error that doesn't depend on the compressed bytes, and does nothing; or the
  -- chunk is stored
  abbrev pub WritesStoredChunk : Option TiffError → OpenImage → List ℕ → Result A TiffError
      → FileState → FileState → OpenImage → Type 0
  WritesStoredChunk (Some cause) i samples r old new next = (r ≡ Err cause)
      × ((next ≡ i) × (new ≡ old))
  WritesStoredChunk None i samples r old new next = StoresChunk i samples r old new next
