-- Queries on the tags of a directory: numbers, all tags, and the bytes of a field.
use Rattle.std.specs.Prelude.{ℕ, ◌+◌, ◌-◌, ◌^◌, not, if◌then◌else◌, nat_lt, nat_le, min, List, [], map, Option, Result, Ok, Err}
use Rattle.std.specs.FinMap.{FinMap, entries}
use Rattle.std.specs.Ordering.{nat_cmp}
use Rattle.std.specs.Int.{byte_len}
use Rattle.tiff_base.specs.declared.error.TiffError.{TiffError}
use Rattle.tiff_base.specs.declared.error.TiffError.TheVariants.{FormatError, LimitsExceeded}
use Rattle.tiff_base.specs.declared.error.TiffFormatError.TheVariants.{InconsistentSizesEncountered, RequiredTagNotFound}
use Rattle.tiff_base.specs.declared.tags.ByteOrder.{ByteOrder}
use Rattle.tiff_base.specs.declared.tags.FileKind.{FileKind}
use Rattle.tiff_base.specs.declared.tags.Tag.{Tag}
use Rattle.tiff_base.specs.Answers.{◌>>=◌}
use Rattle.tiff_base.specs.SourceAndSink.{bytes_at, exactly_at}
use Rattle.tiff_base.specs.Field.{Field}
use Rattle.tiff_base.specs.Tags.{tag_of}
use Rattle.tiff_base.specs.Directory.{offset_width}
use Rattle.tiff_base.specs.FieldBytes.{field_len, field_offset, field_bytes}
use Rattle.tiff_base.specs.Buffer.{BufferRecord}
use Rattle.tiff_ifd.specs.declared.limits.Limits.{Limits}
use Rattle.tiff_ifd.specs.PlainValue.{PlainValue}
use Rattle.tiff_ifd.specs.FieldValue.{field_value}
use Rattle.tiff_ifd.specs.Into.{into_u64, into_u64_vec}
use Rattle.tiff_ifd.specs.TagLookup.{TagLookup, if_found, find, ok_or_fault}
use Rattle.tiff_ifd.specs.Fitted.{fit, fitted_numbers}

-- ---- numbers

-- the number of a tag, if the directory has the tag; `InvalidTagValueType` where it is not below
-- the limit
unfoldable pub find_unsigned : ℕ → TagLookup → Tag → Result (Option ℕ) TiffError
find_unsigned limit look tag = do
  found ← find into_u64 look tag
  if_found (fit tag limit) found

-- the numbers of a tag, if the directory has the tag; all values convert before the first check
-- against the limit
unfoldable pub find_unsigned_vec : ℕ → TagLookup → Tag → Result (Option (List ℕ)) TiffError
find_unsigned_vec limit look tag = do
  found ← find into_u64_vec look tag
  if_found (fitted_numbers tag limit) found

-- the number of a required tag
unfoldable pub get_unsigned : ℕ → TagLookup → Tag → Result ℕ TiffError
get_unsigned limit look tag = do
  found ← find_unsigned limit look tag
  ok_or_fault found (FormatError (RequiredTagNotFound tag))

-- ---- all tags

-- one item for each entry, by ascending tag number; an item that is an error does not name its tag
unfoldable pub tag_items : FileKind → ByteOrder → List ℕ → Limits → FinMap nat_cmp Field
    → List (Result (Tag × PlainValue) TiffError)
tag_items kind order bytes limits fields =
    map (λ e. field_value kind order bytes limits e.1 >>= λ value. Ok (tag_of e.0, value))
    (entries fields)

-- ---- bytes

-- the raw bytes of a field, in the file's byte order; `LimitsExceeded` for more bytes than the
-- limit, also where they are in the entry itself
unfoldable pub buffer_of : FileKind → ByteOrder → List ℕ → Limits → Field
    → Result BufferRecord TiffError
buffer_of kind order bytes limits f =
    if not (nat_lt (field_len f) (2 ^ 64)) then Err LimitsExceeded
    else if not (nat_le (field_len f) limits.decoding_buffer_size) then Err LimitsExceeded
    else (field_bytes kind order bytes f >>= λ found.
    Ok (record { order = order; data_type = f.field_type; bytes = found }))

-- the caller's buffer after an error: unchanged after `LimitsExceeded`, else without values and of
-- the field's type
abbrev pub refused_buffer : ByteOrder → Field → BufferRecord → TiffError → BufferRecord
refused_buffer order f held LimitsExceeded = held
refused_buffer order f held fault = record { order = order; data_type = f.field_type; bytes = [] }

-- n bytes of a field from the byte `at` on: in the value field, or at an offset that has to be
-- below 2^64
abbrev pub part_from : FileKind → ByteOrder → List ℕ → Field → ℕ → ℕ → Result (List ℕ) TiffError
part_from kind order bytes f n at =
    if nat_le (field_len f) (byte_len (offset_width kind)) then Ok (bytes_at f.value at n)
    else if nat_lt (field_offset kind order f + at) (2 ^ 64)
    then exactly_at bytes (field_offset kind order f + at) n
    else Err (FormatError InconsistentSizesEncountered)

-- the bytes of a field from the byte `at` on, at most `len` of them; the source needs to contain
-- only these
unfoldable pub part_of_field : FileKind → ByteOrder → List ℕ → Field → ℕ → ℕ
    → Result (List ℕ) TiffError
part_of_field kind order bytes f len at =
    if not (nat_lt (field_len f) (2 ^ 64)) then Err LimitsExceeded
    else if nat_le (field_len f) at then Ok []
    else part_from kind order bytes f (min len (field_len f - at)) at
