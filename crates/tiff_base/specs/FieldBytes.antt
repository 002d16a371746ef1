-- The bytes of a field (TIFF 6.0 section 2; BigTIFF).
use Rattle.std.specs.Prelude.{ℕ, ◌*◌, ◌^◌, List, take, Result, Ok, Err, if◌then◌else◌, nat_lt, nat_le}
use Rattle.std.specs.Int.{byte_len}
use Rattle.tiff_base.specs.declared.error.TiffError.{TiffError}
use Rattle.tiff_base.specs.declared.error.TiffError.TheVariants.{LimitsExceeded}
use Rattle.tiff_base.specs.declared.tags.ByteOrder.{ByteOrder}
use Rattle.tiff_base.specs.declared.tags.FileKind.{FileKind}
use Rattle.tiff_base.specs.Field.{Field}
use Rattle.tiff_base.specs.Types.{type_size}
use Rattle.tiff_base.specs.SourceAndSink.{exactly_at}
use Rattle.tiff_base.specs.Number.{number}
use Rattle.tiff_base.specs.Directory.{offset_width}

-- the number of bytes of the values of a field
abbrev pub field_len : Field → ℕ
field_len f = f.count * type_size f.field_type

-- the offset in the value field of a field
abbrev pub field_offset : FileKind → ByteOrder → Field → ℕ
field_offset kind order f = number order (offset_width kind) f.value

-- the bytes of a field: the first bytes of the value field if they fit there, or else the bytes at
-- the offset in the value field
abbrev pub bytes_of_field : FileKind → ByteOrder → List ℕ → Field → Result (List ℕ) TiffError
bytes_of_field kind order bytes f =
    if nat_le (field_len f) (byte_len (offset_width kind))
    then Ok (take (field_len f) f.value)
    else exactly_at bytes (field_offset kind order f) (field_len f)

-- the bytes of a field, if their number is below 2^64; else `LimitsExceeded`
unfoldable pub field_bytes : FileKind → ByteOrder → List ℕ → Field → Result (List ℕ) TiffError
field_bytes kind order bytes f =
    if nat_lt (field_len f) (2 ^ 64) then bytes_of_field kind order bytes f else Err LimitsExceeded
