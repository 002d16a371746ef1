-- The methods of compression that are read: none, and PackBits (TIFF 6.0 sections 3 and 9). What
-- a method is to the reader is said here, and by the variants of `ChunkCursor`.
use Rattle.std.specs.Prelude.{ℕ, ◌-◌, min, Bool, true, false, if◌then◌else◌, nat_lt, List, [], take, drop, length, Result, Ok, Err}
use Rattle.std.specs.Int.{div_ceil}
use Rattle.tiff_base.specs.declared.error.TiffError.{TiffError}
use Rattle.tiff_base.specs.declared.error.TiffError.TheVariants.{UnsupportedError}
use Rattle.tiff_base.specs.declared.error.TiffUnsupportedError.TheVariants.{UnsupportedCompressionMethod}
use Rattle.tiff_base.specs.declared.tags.CompressionMethod.{CompressionMethod}
use Rattle.tiff_base.specs.declared.tags.CompressionMethod.TheVariants as method
use Rattle.tiff_base.specs.Runs.{runs}

-- the error of a method that isn't read
abbrev pub method_fault : CompressionMethod → Result (Unit {0}) TiffError
method_fault method.None = Ok tt
method_fault method.PackBits = Ok tt
method_fault m = Err (UnsupportedError (UnsupportedCompressionMethod m))

-- the data of `count` bytes at an offset: the file from that offset on, or the decompressed bytes;
-- other methods aren't decompressed
abbrev pub data_by_method : List ℕ → CompressionMethod → ℕ → ℕ → List ℕ
data_by_method file method.None offset count = drop offset file
data_by_method file method.PackBits offset count =
    (runs (nat_lt (length file - offset) count) (take count (drop offset file))).out
data_by_method file _ offset count = []

-- whether the counted bytes alone are read, and are decompressed
abbrev pub is_packed : CompressionMethod → Bool
is_packed method.PackBits = true
is_packed _ = false

-- how many bytes n bytes of decompressed data take in a file at least: two bytes of PackBits data
-- decompress to at most 128
abbrev pub least_stored : CompressionMethod → ℕ → ℕ
least_stored m n = if is_packed m then div_ceil n 64 else n

-- how many bytes a file has from an offset on; of PackBits data at most `count`
abbrev pub bytes_held : List ℕ → CompressionMethod → ℕ → ℕ → ℕ
bytes_held file m offset count = if is_packed m then min count (length file - offset)
    else length file - offset
