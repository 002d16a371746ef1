-- The errors that refuse a call of the encoder: for each call the first one that applies (this
-- project's order).
use Rattle.std.specs.Prelude.{ℕ, ◌+◌, ◌*◌, ◌%◌, ◌^◌, ◌&&◌, ◌||◌, ◌==◌, Bool, true, false, not, List, [], ◌∷◌, length, nat_lt, nat_le, Option, Some, None, Result, Ok, Err, if◌then◌else◌}
use Rattle.std.specs.FinMap.{len, entries}
use Rattle.std.specs.List.{list_any}
use Rattle.tiff_base.specs.declared.color.ChunkType.TheVariants.{Strip, Tile}
use Rattle.tiff_base.specs.declared.error.TiffError.{TiffError}
use Rattle.tiff_base.specs.declared.error.TiffError.TheVariants.{FormatError, IoError, IntSizeError, UsageError}
use Rattle.tiff_base.specs.declared.error.TiffFormatError.TheVariants.{InvalidDimensions}
use Rattle.tiff_base.specs.declared.error.UsageError.TheVariants.{PredictorIncompatible, PredictorUnavailable, ZeroIfdPointer, ReconfiguredAfterImageWrite, ByteOrderMismatch, MismatchedEntryLength, InvalidChunkType, ParentNotWritten, WriterFailed}
use Rattle.tiff_base.specs.declared.io.IoKind.TheVariants.{InvalidData, InvalidInput}
use Rattle.tiff_base.specs.declared.io.SinkFault.{SinkFault}
use Rattle.tiff_base.specs.declared.tags.ByteOrder.{ByteOrder}
use Rattle.tiff_base.specs.declared.tags.ByteOrder.TheVariants.{LittleEndian, BigEndian}
use Rattle.tiff_base.specs.declared.tags.ExtraSamples.{ExtraSamples}
use Rattle.tiff_base.specs.declared.tags.FileKind.{FileKind}
use Rattle.tiff_base.specs.declared.tags.FileKind.TheVariants.{Classic, Big}
use Rattle.tiff_base.specs.declared.tags.Predictor.{Predictor}
use Rattle.tiff_base.specs.declared.tags.Predictor.TheVariants as predictor
use Rattle.tiff_base.specs.declared.tags.SampleFormat.{SampleFormat}
use Rattle.tiff_base.specs.declared.tags.SampleFormat.TheVariants.{IEEEFP, Void}
use Rattle.tiff_base.specs.declared.tags.«Type».{«Type»}
use Rattle.tiff_base.specs.Directory.{link_offset}
use Rattle.tiff_base.specs.Types.{type_size}
use Rattle.tiff_value.specs.ColorType.{ColorTypeRecord, is_packed}
use Rattle.tiff_value.specs.Buffer.{BufferRecord}
use Rattle.tiff_value.specs.Data.{FieldData, extras, rationals, data_of}
use Rattle.tiff_page.specs.Counts.{all_chunks}
use Rattle.tiff_encode.specs.Encoder.{is_too_far}
use Rattle.tiff_value.specs.FileBytes.{offset_len, resolutions_offset}
use Rattle.tiff_value.specs.Fields.{data_in, buffer_data, is_long}
use Rattle.tiff_encode.specs.Machine.{FileState, OpenDirectory, OpenImage}
use Rattle.tiff_encode.specs.Chunks.{all_samples, image_page, is_tile, is_begun, is_left, is_in_order, next_chunk_sample_count}

-- the errors of a call that writes: the error of an earlier failed write comes first
abbrev pub unless_ended : Option SinkFault → Option TiffError → Option TiffError
unless_ended None cause = cause
unless_ended (Some fault) cause = Some (UsageError WriterFailed)

abbrev pub unless_failed : FileState → Option TiffError → Option TiffError
unless_failed file cause = unless_ended file.fault cause

-- whether a number exceeds the offsets, counts and lengths of a kind of file; no number does so for
-- BigTIFF
abbrev pub is_past : FileKind → ℕ → Bool
is_past Classic n = is_too_far n
is_past Big n = false

-- whether there are more entries than a directory can count
abbrev pub is_past_count : FileKind → ℕ → Bool
is_past_count Classic n = nat_lt 65535 n
is_past_count Big n = false

-- the end of the file, where the next bytes are appended
abbrev pub end_of : FileState → ℕ
end_of file = length file.bytes

-- the error of `image_directory` and `extra_directory`, if any
unfoldable pub begin_cause : FileState → Option TiffError
begin_cause file = unless_failed file None

-- ---- fields

-- the error of a field: its count, or the offset of its bytes if they don't fit into the entry
abbrev pub field_cause : FileState → FieldData → Option TiffError
field_cause file value =
    if is_past file.kind value.count then Some IntSizeError
    else if is_long file.kind value && is_past file.kind (end_of file) then Some IntSizeError
    else None

-- the error of a value; a text can have an error that says that it can't be written
abbrev pub data_cause : Result FieldData TiffError → (FieldData → Option TiffError)
    → Option TiffError
data_cause (Ok value) rest = rest value
data_cause (Err e) rest = Some e

-- bytes from the caller have to be little-endian
abbrev pub order_cause : ByteOrder → Option TiffError → Option TiffError
order_cause LittleEndian rest = rest
order_cause BigEndian rest = Some (UsageError ByteOrderMismatch)

-- the error of `write_tag` and `write_entry`, if any
unfoldable pub write_tag_cause : FileState → Result FieldData TiffError → Option TiffError
write_tag_cause file value = unless_failed file (data_cause value (field_cause file))

-- the error of `write_tag_buf` and `write_entry_buf`, if any
unfoldable pub write_buf_cause : FileState → BufferRecord → Option TiffError
write_buf_cause file b = unless_failed file (order_cause b.order (field_cause file (buffer_data b)))

-- the error of `write_entry_bytes`, if any
unfoldable pub write_entry_bytes_cause : FileState → «Type» → List ℕ → Option TiffError
write_entry_bytes_cause file type bytes =
    unless_failed file
    (if not (length bytes % type_size type == 0)
    then Some (UsageError (MismatchedEntryLength type (length bytes)))
    else field_cause file (data_in type bytes))

-- the error of `write_data` of a directory, if any
unfoldable pub write_data_cause : FileState → Result FieldData TiffError → Option TiffError
write_data_cause file value = unless_failed file (data_cause value (λ _. None))

-- the error of `write_data_buf`, if any
unfoldable pub write_data_buf_cause : FileState → BufferRecord → Option TiffError
write_data_buf_cause file b = unless_failed file (order_cause b.order None)

-- ---- the end of a directory

-- the error of a parent's link that isn't within the file
abbrev pub parent_cause : FileState → Option ℕ → Option TiffError
parent_cause file None = None
parent_cause file (Some offset) =
    if nat_lt (end_of file) (offset + offset_len file.kind) then Some (UsageError ParentNotWritten)
    else None

-- the error of `finish`, `finish_with_offsets` and `discard`, if any, in the order: the number of
-- entries, the count of a field, the offset of the directory, the parent's link
unfoldable pub finish_cause : FileState → OpenDirectory → Option TiffError
finish_cause file d =
    unless_failed file
    (if is_past_count file.kind (len d.fields)
    || (list_any (λ entry. is_past file.kind entry.1.count) (entries d.fields) || is_past file.kind
    (end_of file))
    then Some IntSizeError
    else parent_cause file d.parent)

-- the error of `DirectoryOffset::new`, of a directory with a given number of entries; it doesn't
-- depend on a file
unfoldable pub offset_cause : FileKind → ℕ → ℕ → Option TiffError
offset_cause kind pointer count =
    if is_past kind pointer then Some IntSizeError
    else if pointer == 0 || nat_le (2 ^ 64) (link_offset kind pointer count)
    then Some (UsageError ZeroIfdPointer)
    else None

-- ---- images

-- whether differences of samples of these formats, taken as integers, have no meaning
abbrev pub is_not_whole : List SampleFormat → Bool
is_not_whole [] = false
is_not_whole (IEEEFP ∷ formats) = true
is_not_whole (Void ∷ formats) = true
is_not_whole (format ∷ formats) = false

-- whether a color type has no predictor: its samples aren't integers, or several are in a byte; all
-- formats of an image are the same
abbrev pub is_unpredicted : ColorTypeRecord → Bool
is_unpredicted color = is_packed color || is_not_whole color.formats

-- the error of a predictor that can't be used; `unpredicted` tells whether the color type has none
abbrev pub predictor_cause : Predictor → Bool → Option TiffError → Option TiffError
predictor_cause predictor.None unpredicted rest = rest
predictor_cause predictor.Horizontal unpredicted rest = if unpredicted
    then Some (UsageError PredictorIncompatible) else rest
predictor_cause predictor.FloatingPoint unpredicted rest = Some (UsageError PredictorUnavailable)

-- the error of an image of a width and a height at the end of a file of a length, in the order: the
-- width and the height, the predictor, the offset of a resolution; in BigTIFF a resolution needs no
-- offset
unfoldable pub image_cause : FileKind → ℕ → Predictor → Bool → ℕ → ℕ → Option TiffError
image_cause kind end predictor unpredicted width height =
    if width == 0 || height == 0 then Some (FormatError (InvalidDimensions width height))
    else predictor_cause predictor unpredicted (if is_past kind (resolutions_offset end + 8)
    then Some IntSizeError else None)

-- the error of `new_image`, if any
unfoldable pub new_image_cause : FileState → ColorTypeRecord → ℕ → ℕ → Option TiffError
new_image_cause file color width height =
    unless_failed file
    (image_cause file.kind (end_of file) file.predictor (is_unpredicted color) width height)

-- the error of `extra_samples`, if any; it refuses packed pixels
unfoldable pub extra_samples_cause : FileState → OpenImage → List ExtraSamples → Option TiffError
extra_samples_cause file i extra =
    unless_failed file
    (if is_begun i then Some (UsageError ReconfiguredAfterImageWrite)
    else if is_packed i.color then Some (IoError InvalidInput)
    else if nat_lt 65535 (length i.color.bits + length extra) then Some IntSizeError
    else field_cause file (data_of (extras extra)))

-- the error of `rows_per_strip`, if any; it refuses an image of tiles
unfoldable pub rows_per_strip_cause : FileState → OpenImage → ℕ → Option TiffError
rows_per_strip_cause file i rows =
    unless_failed file (if rows == 0 || (is_begun i || is_tile i.form.chunk_type)
    then Some (IoError InvalidInput) else None)

-- whether a number can't be the width or the length of a tile, which is a multiple of 16 and not 0
abbrev pub is_no_side : ℕ → Bool
is_no_side n = n == 0 || not (n % 16 == 0)

-- the error of `tiles`, if any; it refuses packed pixels
unfoldable pub tiles_cause : FileState → OpenImage → ℕ → ℕ → Option TiffError
tiles_cause file i width length =
    unless_failed file
    (if is_begun i then Some (UsageError ReconfiguredAfterImageWrite)
    else if is_packed i.color || (is_no_side width || is_no_side length)
    then Some (IoError InvalidInput)
    else None)

-- the error of `planar`, if any
unfoldable pub planar_cause : FileState → OpenImage → Option TiffError
planar_cause file i =
    unless_failed file (if is_begun i then Some (UsageError ReconfiguredAfterImageWrite) else None)

-- the error of `resolution`, if any: the offsets of both resolutions are checked before one is
-- written
unfoldable pub resolution_cause : FileState → Option TiffError
resolution_cause file =
    unless_failed file (if is_past file.kind (end_of file + 8) then Some IntSizeError else None)

-- the error of `x_resolution` and `y_resolution`, if any; each rational number has the same number
-- of bytes
unfoldable pub one_resolution_cause : FileState → Option TiffError
one_resolution_cause file =
    unless_failed file (field_cause file (data_of (rationals ((1, 1) ∷ []))))

-- the error of `resolution_unit`, if any
unfoldable pub resolution_unit_cause : FileState → Option TiffError
resolution_unit_cause file = unless_failed file None

-- whether an image has more chunks than a page can have
abbrev pub is_past_chunks : OpenImage → Bool
is_past_chunks i = nat_le (2 ^ 32) (all_chunks (image_page i))

-- the error of a chunk of a given number of samples, which is stored as a given number of bytes
abbrev pub chunk_cause : FileState → OpenImage → ℕ → ℕ → Option TiffError
chunk_cause file i count stored =
    if is_past_chunks i then Some IntSizeError
    else if not (is_left i) || not (count == next_chunk_sample_count i)
    then Some (IoError InvalidData)
    else if is_past file.kind (end_of file) || is_past file.kind stored then Some IntSizeError
    else None

-- the error of `write_chunk`, if any
unfoldable pub write_chunk_cause : FileState → OpenImage → ℕ → ℕ → Option TiffError
write_chunk_cause file i count stored = unless_failed file (chunk_cause file i count stored)

-- the error of `write_strip`, if any; it refuses an image of tiles
unfoldable pub write_strip_cause : FileState → OpenImage → ℕ → ℕ → Option TiffError
write_strip_cause file i count stored =
    unless_failed file
    (if is_tile i.form.chunk_type then Some (UsageError (InvalidChunkType Strip Tile))
    else chunk_cause file i count stored)

-- the number of samples of an image
abbrev pub image_samples : OpenImage → ℕ
image_samples i = i.width * i.height * all_samples i

-- the error of `write_data` of an image, of a given number of samples, before a chunk is written;
-- an image that has chunks can continue only if the samples of its chunks are in row order
unfoldable pub write_image_data_cause : FileState → OpenImage → ℕ → Option TiffError
write_image_data_cause file i count =
    unless_failed file
    (if nat_le (2 ^ 64) (image_samples i) || (is_begun i && not (is_in_order i.form))
    then Some (IoError InvalidInput)
    else if nat_lt count (image_samples i) then Some (IoError InvalidData)
    else if is_past_chunks i then Some IntSizeError
    else None)
