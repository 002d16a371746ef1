-- The data of a chunk that are still to be read, and what is read of them.
use Rattle.std.specs.Prelude.{◌≡◌, ℕ, ◌<◌, List, [], ◌++◌, length, drop, Result, Ok, Err}
use Rattle.tiff_base.specs.declared.error.TiffError.{TiffError}
use Rattle.tiff_base.specs.declared.error.TiffError.TheVariants.{IoError}
use Rattle.tiff_base.specs.declared.io.IoKind.TheVariants.{UnexpectedEof}
use Rattle.tiff_base.specs.Answers.{IsCause}
use Rattle.tiff_ifd.specs.Unpacking.{left_at}
use Rattle.tiff_page.specs.declared.chunk_data.ChunkCursor.{ChunkCursor}
use Rattle.tiff_page.specs.declared.chunk_data.ChunkCursor.TheVariants.{Plain, Packed, Ended}

-- the bytes that are left from a position in a chunk
abbrev pub bytes_left : List ℕ → ChunkCursor → List ℕ
bytes_left bytes (Plain at) = drop at bytes
bytes_left bytes (Packed position) = (left_at bytes position).out
bytes_left bytes Ended = []

-- fewer bytes are left than a call asks for
pub record IsTooShort (left : List ℕ) (wanted : ℕ) (e : TiffError) : Type 0 where
  pub fault : e ≡ IoError UnexpectedEof
  pub short : length left < wanted

-- a buffer was filled with the next bytes, or fewer are left
abbrev pub Takes : List ℕ → ChunkCursor → ChunkCursor → Type 0 → Type 0 → ℕ → List ℕ
    → Result (Unit {0}) TiffError → Type 0
Takes bytes old new wanting failed len filled (Ok done) =
    (bytes_left bytes old ≡ filled ++ bytes_left bytes new) × (length filled ≡ len)
Takes bytes old new wanting failed len filled (Err e) =
    IsCause wanting failed e (IsTooShort (bytes_left bytes old) len e)

-- n bytes were skipped, or all that are left if there are fewer
abbrev pub Passes : List ℕ → ChunkCursor → ChunkCursor → Type 0 → ℕ
    → Result (Unit {0}) TiffError → Type 0
Passes bytes old new failed n (Ok done) = bytes_left bytes new ≡ drop n (bytes_left bytes old)
Passes bytes old new failed n (Err e) = IsCause ⊥ failed e ⊥
