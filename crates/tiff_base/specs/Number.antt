-- Numbers in a byte order (TIFF 6.0 section 2).
use Rattle.std.specs.Prelude.{ℕ, ◌+◌, ◌*◌, ◌/◌, ◌%◌, List, sum_by, Result, Ok}
use Rattle.std.specs.Int.{Width, byte_len, from_le_bytes, from_be_bytes, bytes_low_first}
use Rattle.std.specs.List.{range_with_len}
use Rattle.tiff_base.specs.declared.error.TiffError.{TiffError}
use Rattle.tiff_base.specs.declared.tags.ByteOrder.{ByteOrder}
use Rattle.tiff_base.specs.declared.tags.ByteOrder.TheVariants.{LittleEndian, BigEndian}
use Rattle.tiff_base.specs.SourceAndSink.{exactly_at}
use Rattle.tiff_base.specs.Answers.{◌>>=◌}

-- the number that the bytes of this width encode in a byte order
unfoldable pub number : ByteOrder → Width → List ℕ → ℕ
number LittleEndian w bytes = from_le_bytes w bytes
number BigEndian w bytes = from_be_bytes w bytes

-- the number at an offset
abbrev pub number_at : ByteOrder → Width → List ℕ → ℕ → Result ℕ TiffError
number_at order w bytes at = do
  found ← exactly_at bytes at (byte_len w)
  Ok (number order w found)

-- the k lowest bytes of a number, the least significant first
abbrev pub le : ℕ → ℕ → List ℕ
le k n = bytes_low_first 0 k n

-- what undoing the horizontal predictor returns (TIFF 6.0 section 14): the sum, modulo m, of number
-- k of a row and the same sample of each pixel before it; a pixel has `stored` numbers
abbrev pub sample_sum : ℕ → ℕ → (ℕ → ℕ) → ℕ → ℕ
sample_sum m stored value k =
    sum_by (λ c. value (c * stored + k % stored)) (range_with_len 0 (k / stored + 1)) % m
