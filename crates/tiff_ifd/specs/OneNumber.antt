-- One number of a field, read alone (TIFF 6.0 section 2; BigTIFF).
use Rattle.std.specs.Prelude.{◌≡◌, ℕ, ◌*◌, ◌^◌, ◌<◌, Bool, true, false, not, if◌then◌else◌, nat_lt, nat_le, List, length, slice_index, Result, Ok, Err}
use Rattle.tiff_base.specs.Answers.{◌>>=◌}
use Rattle.tiff_base.specs.Field.{Field}
use Rattle.tiff_base.specs.FieldBytes.{field_len}
use Rattle.tiff_base.specs.Number.{number}
use Rattle.tiff_base.specs.SourceAndSink.{SourceRecord}
use Rattle.tiff_base.specs.Types.{type_size}
use Rattle.tiff_base.specs.declared.error.TiffError.{TiffError}
use Rattle.tiff_base.specs.declared.error.TiffError.TheVariants.{FormatError, LimitsExceeded}
use Rattle.tiff_base.specs.declared.error.TiffFormatError.TheVariants.{InconsistentSizesEncountered, InvalidTypeForTag}
use Rattle.tiff_base.specs.declared.tags.ByteOrder.{ByteOrder}
use Rattle.tiff_base.specs.declared.tags.FileKind.{FileKind}
use Rattle.tiff_base.specs.declared.tags.«Type».{«Type»}
use Rattle.tiff_base.specs.declared.tags.«Type».TheVariants as t
use Rattle.tiff_ifd.specs.Stretches.{FieldPartReadable}
use Rattle.tiff_ifd.specs.TagQueries.{part_from}
use Rattle.tiff_ifd.specs.Unsigned.{field_numbers, unsigned_width}
use Rattle.tiff_ifd.specs.declared.limits.Limits.{Limits}

-- whether the values of a type are unsigned numbers of two, four or eight bytes
abbrev pub is_unsigned : «Type» → Bool
is_unsigned t.SHORT = true
is_unsigned t.LONG = true
is_unsigned t.LONG8 = true
is_unsigned _ = false

-- the number with the index k of a field of type SHORT, LONG or LONG8, from its own bytes
unfoldable pub one_number : FileKind → ByteOrder → List ℕ → Field → ℕ → Result ℕ TiffError
one_number kind order bytes f k =
    if not (is_unsigned f.field_type) then Err (FormatError InvalidTypeForTag)
    else if not (nat_lt (field_len f) (2 ^ 64)) then Err LimitsExceeded
    else if nat_le f.count k then Err (FormatError InconsistentSizesEncountered)
    else (part_from kind order bytes f (type_size f.field_type) (k * type_size f.field_type)
    >>= λ found. Ok (number order (unsigned_width f.field_type) found))

-- The source can read the number with the index k of a field.
abbrev pub NumberReadable : SourceRecord → FileKind → ByteOrder → Field → ℕ → Type 0
NumberReadable source kind order f k =
    FieldPartReadable source kind order f (k * type_size f.field_type) (type_size f.field_type)

-- A number of a field, read alone, is the one that a read of all numbers returns. Each offset of
-- the file is below 2^64, and the value field has eight bytes.
abbrev pub OneOfNumbers : Type 0
OneOfNumbers =
    (kind : FileKind) (order : ByteOrder) (bytes : List ℕ) (limits : Limits) (f : Field)
    (numbers : List ℕ) (k : ℕ)
    → length bytes < 2 ^ 64 → is_unsigned f.field_type ≡ true → length f.value ≡ 8
    → field_numbers kind order bytes limits f ≡ Ok numbers → k < length numbers
    → one_number kind order bytes f k ≡ Ok (slice_index numbers k)
