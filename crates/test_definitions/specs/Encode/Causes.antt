-- Worked examples of errors of the writer.
use Rattle.std.specs.Prelude.{◌≡◌, ℕ, true, false, List, [], ◌∷◌, length, Some, None, Result, Ok, Err}
use Rattle.std.specs.FinMap.{len, entries}
use Rattle.tiff_base.specs.declared.color.ChunkType.TheVariants.{Strip, Tile}
use Rattle.tiff_base.specs.declared.error.TiffError.{TiffError}
use Rattle.tiff_base.specs.declared.error.TiffError.TheVariants.{FormatError, IoError, IntSizeError, UsageError}
use Rattle.tiff_base.specs.declared.error.TiffFormatError.TheVariants.{InvalidDimensions, InvalidTag}
use Rattle.tiff_base.specs.declared.error.UsageError.TheVariants.{PredictorIncompatible, PredictorUnavailable, ZeroIfdPointer, ReconfiguredAfterImageWrite, ByteOrderMismatch, MismatchedEntryLength, InvalidChunkType, ParentNotWritten, WriterFailed}
use Rattle.tiff_base.specs.declared.io.IoKind.TheVariants.{InvalidData, InvalidInput}
use Rattle.tiff_base.specs.declared.io.SinkFault.TheVariants.{Device}
use Rattle.tiff_base.specs.declared.tags.ByteOrder.{ByteOrder}
use Rattle.tiff_base.specs.declared.tags.ByteOrder.TheVariants.{LittleEndian, BigEndian}
use Rattle.tiff_base.specs.declared.tags.ExtraSamples.{ExtraSamples}
use Rattle.tiff_base.specs.declared.tags.ExtraSamples.TheVariants.{Unspecified}
use Rattle.tiff_base.specs.declared.tags.FileKind.{FileKind}
use Rattle.tiff_base.specs.declared.tags.FileKind.TheVariants.{Classic, Big}
use Rattle.tiff_base.specs.declared.tags.PhotometricInterpretation.TheVariants.{BlackIsZero, RGB}
use Rattle.tiff_base.specs.declared.tags.PlanarConfiguration.TheVariants.{Chunky, Planar}
use Rattle.tiff_base.specs.declared.tags.Predictor.TheVariants as predictor
use Rattle.tiff_base.specs.declared.tags.SampleFormat.TheVariants.{Uint, IEEEFP}
use Rattle.tiff_base.specs.declared.tags.«Type».TheVariants.{BYTE, SHORT}
use Rattle.tiff_base.specs.Field.{Field}
use Rattle.tiff_value.specs.ColorType.{ColorTypeRecord}
use Rattle.tiff_value.specs.Buffer.{BufferRecord}
use Rattle.tiff_value.specs.Data.{FieldData, u16s, data_of}
use Rattle.tiff_encode.specs.Machine.{FileState, OpenDirectory, OpenImage, begun_file}
use Rattle.tiff_page.specs.Counts.{all_chunks}
use Rattle.tiff_encode.specs.Chunks.{image_page, next_strip_sample_count, next_chunk_sample_count}
use Rattle.tiff_encode.specs.Calls.{new_directory, image_in, with_chunk, strips_of, tiles_of}
use Rattle.tiff_encode.specs.Causes as causes
use Rattle.tiff_encode.specs.Placing.{field_test}

-- a file with only a header, a file whose sink failed, and a file with these bytes
abbrev pub new_file : FileKind → FileState
new_file kind = begun_file kind [] 0

abbrev pub failed_file : FileState
failed_file = record (new_file Classic) { fault = Some Device; failures = 1 }

abbrev pub file_with : FileKind → List ℕ → FileState
file_with kind bytes = record (new_file kind) { bytes = bytes }

-- color types: 8-bit gray, 8-bit RGB, and 32-bit floating-point gray
abbrev pub gray : ColorTypeRecord
gray = record { interpretation = BlackIsZero; bits = 8 ∷ []; formats = Uint ∷ [] }

abbrev pub rgb : ColorTypeRecord
rgb = record { interpretation = RGB; bits = 8 ∷ 8 ∷ 8 ∷ []; formats = Uint ∷ Uint ∷ Uint ∷ [] }

abbrev pub gray_float : ColorTypeRecord
gray_float = record { interpretation = BlackIsZero; bits = 32 ∷ []; formats = IEEEFP ∷ [] }

-- the value of a text that can't be written
abbrev pub no_text : Result FieldData TiffError
no_text = Err (FormatError InvalidTag)

-- SHORT numbers as bytes in a byte order
abbrev pub buffer : ByteOrder → List ℕ → BufferRecord
buffer order bytes = record { order = order; data_type = SHORT; bytes = bytes }

-- a value of 2^32 bytes, which are left out here
abbrev pub long_list : FieldData
long_list = record { field_type = BYTE; count = 4294967296; bytes = [] }

-- a field of 2^32 bytes
abbrev pub large_field : Field
large_field = record { field_type = BYTE; count = 4294967296; value = [] }

-- an image of one pixel, without a chunk and with its strip
abbrev pub pixel : OpenImage
pixel = image_in (new_file Classic) (new_directory (Some 4) true) gray 1 1 1

abbrev pub written_pixel : OpenImage
written_pixel = with_chunk pixel 24 1

-- an image with the largest dimensions, in one strip
abbrev pub largest : ColorTypeRecord → OpenImage
largest color =
    record (image_in (new_file Classic) (new_directory (Some 4) true) color 1 4294967295 4294967295) {
      form = strips_of 4294967295 4294967295 Chunky;
    }

-- an image of one pixel, in tiles
abbrev pub tiled : OpenImage
tiled = record pixel { form = tiles_of 16 16 Chunky }

-- mistake: `begin_cause` refuses none
-- after a failed write, each call that writes returns that error, whatever else is wrong
abbrev pub failed_begin : Type 0
failed_begin = causes.begin_cause failed_file ≡ Some (UsageError WriterFailed)

-- mistake: `unless_failed` tests a failed write after the other causes
abbrev pub failed_tag : Type 0
failed_tag = causes.write_tag_cause failed_file no_text ≡ Some (UsageError WriterFailed)

abbrev pub failed_buf : Type 0
failed_buf =
    causes.write_buf_cause failed_file (buffer BigEndian []) ≡ Some (UsageError WriterFailed)

abbrev pub failed_bytes : Type 0
failed_bytes =
    causes.write_entry_bytes_cause failed_file SHORT (1 ∷ []) ≡ Some (UsageError WriterFailed)

abbrev pub failed_data : Type 0
failed_data = causes.write_data_cause failed_file no_text ≡ Some (UsageError WriterFailed)

abbrev pub failed_finish : Type 0
failed_finish =
    causes.finish_cause failed_file (new_directory (Some 1000) true)
    ≡ Some (UsageError WriterFailed)

abbrev pub failed_image : Type 0
failed_image = causes.new_image_cause failed_file gray 0 5 ≡ Some (UsageError WriterFailed)

abbrev pub failed_extra : Type 0
failed_extra =
    causes.extra_samples_cause failed_file written_pixel [] ≡ Some (UsageError WriterFailed)

abbrev pub failed_rows : Type 0
failed_rows = causes.rows_per_strip_cause failed_file pixel 0 ≡ Some (UsageError WriterFailed)

abbrev pub failed_strip : Type 0
failed_strip = causes.write_strip_cause failed_file pixel 5 5 ≡ Some (UsageError WriterFailed)

abbrev pub failed_write : Type 0
failed_write = causes.write_image_data_cause failed_file pixel 0 ≡ Some (UsageError WriterFailed)

-- mistake: `resolution_unit_cause` doesn't test for a failed write
abbrev pub failed_unit : Type 0
failed_unit = causes.resolution_unit_cause failed_file ≡ Some (UsageError WriterFailed)

-- ---- fields

-- a directory begins in each file without a failure
abbrev pub begins : Type 0
begins = causes.begin_cause (new_file Classic) ≡ None

-- a text that can't be written
abbrev pub tag_text : Type 0
tag_text = causes.write_tag_cause (new_file Classic) no_text ≡ Some (FormatError InvalidTag)

-- mistake: `write_tag_cause` tests neither count nor offset
-- more values than a classic field can count, which BigTIFF can
abbrev pub tag_count : Type 0
tag_count = causes.write_tag_cause (new_file Classic) (Ok long_list) ≡ Some IntSizeError

abbrev pub tag_count_big : Type 0
tag_count_big = causes.write_tag_cause (new_file Big) (Ok long_list) ≡ None

abbrev pub tag_count_last : Type 0
tag_count_last =
    causes.write_tag_cause (new_file Classic) (Ok (record long_list { count = 4294967295 })) ≡ None

-- a value of six bytes at an offset beyond four bytes; a value of four bytes needs no offset
abbrev pub tag_far : Type 0
tag_far = (bytes : List ℕ) → length bytes ≡ 4294967296
    → causes.write_tag_cause (file_with Classic bytes) (Ok (data_of (u16s (1 ∷ 2 ∷ 3 ∷ []))))
    ≡ Some IntSizeError

abbrev pub tag_last : Type 0
tag_last = (bytes : List ℕ) → length bytes ≡ 4294967295
    → causes.write_tag_cause (file_with Classic bytes) (Ok (data_of (u16s (1 ∷ 2 ∷ 3 ∷ [])))) ≡ None

-- mistake: `field_cause` tests the offset of an inline value
abbrev pub tag_inline : Type 0
tag_inline = (bytes : List ℕ)
    → causes.write_tag_cause (file_with Classic bytes) (Ok (data_of (u16s (1 ∷ 2 ∷ [])))) ≡ None

-- five bytes need an offset and four don't, and BigTIFF has room for each offset
abbrev pub test_far : Type 0
test_far = field_test Classic 4294967296 5 5 ≡ Some IntSizeError

-- mistake: `field_test` tests the offset of an inline value
abbrev pub test_inline : Type 0
test_inline = field_test Classic 4294967296 4 4 ≡ None

abbrev pub test_far_big : Type 0
test_far_big = field_test Big 4294967296 9 9 ≡ None

-- big-endian bytes are refused before their offset is checked; little-endian bytes are accepted
abbrev pub buf_order : Type 0
buf_order = (bytes : List ℕ)
    → causes.write_buf_cause (file_with Classic bytes)
    (buffer BigEndian (1 ∷ 2 ∷ 3 ∷ 4 ∷ 5 ∷ 6 ∷ [])) ≡ Some (UsageError ByteOrderMismatch)

-- mistake: `write_buf_cause` tests neither count nor offset
abbrev pub buf_far : Type 0
buf_far = (bytes : List ℕ) → length bytes ≡ 4294967296
    → causes.write_buf_cause (file_with Classic bytes)
    (buffer LittleEndian (1 ∷ 2 ∷ 3 ∷ 4 ∷ 5 ∷ 6 ∷ [])) ≡ Some IntSizeError

abbrev pub buf_little : Type 0
buf_little = causes.write_buf_cause (new_file Classic) (buffer LittleEndian (1 ∷ 2 ∷ [])) ≡ None

-- mistake: `write_entry_bytes_cause` allows any length but 0
-- three bytes aren't SHORT numbers, and six bytes are
abbrev pub bytes_ragged : Type 0
bytes_ragged = causes.write_entry_bytes_cause (new_file Classic) SHORT (1 ∷ 2 ∷ 3 ∷ [])
    ≡ Some (UsageError (MismatchedEntryLength SHORT 3))

abbrev pub bytes_whole : Type 0
bytes_whole = causes.write_entry_bytes_cause (new_file Classic) SHORT (1 ∷ 2 ∷ 3 ∷ 4 ∷ 5 ∷ 6 ∷ [])
    ≡ None

abbrev pub bytes_far : Type 0
bytes_far = (bytes : List ℕ) → length bytes ≡ 4294967296
    → causes.write_entry_bytes_cause (file_with Classic bytes) SHORT (1 ∷ 2 ∷ 3 ∷ 4 ∷ 5 ∷ 6 ∷ [])
    ≡ Some IntSizeError

-- mistake: `data_cause` has no cause
-- data needs no count and no offset
abbrev pub data_text : Type 0
data_text = causes.write_data_cause (new_file Classic) no_text ≡ Some (FormatError InvalidTag)

-- mistake: `write_data_cause` tests a count
abbrev pub data_long : Type 0
data_long = causes.write_data_cause (new_file Classic) (Ok long_list) ≡ None

-- mistake: `order_cause` has no cause
-- mistake: `write_data_buf_cause` doesn't test the byte order
abbrev pub data_order : Type 0
data_order =
    causes.write_data_buf_cause (new_file Classic) (buffer BigEndian [])
    ≡ Some (UsageError ByteOrderMismatch)

abbrev pub data_little : Type 0
data_little = causes.write_data_buf_cause (new_file Classic) (buffer LittleEndian (1 ∷ [])) ≡ None

-- ---- the ends of directories

-- mistake: `parent_cause` is off by one at the end
-- a parent's link that ends where the directory begins, and one that ends one byte later
abbrev pub parent_last : Type 0
parent_last = causes.finish_cause (new_file Classic) (new_directory (Some 4) true) ≡ None

abbrev pub parent_past : Type 0
parent_past =
    causes.finish_cause (new_file Classic) (new_directory (Some 5) false)
    ≡ Some (UsageError ParentNotWritten)

abbrev pub parent_past_big : Type 0
parent_past_big =
    causes.finish_cause (new_file Big) (new_directory (Some 9) false)
    ≡ Some (UsageError ParentNotWritten)

-- without a parent no link is patched
abbrev pub no_parent : Type 0
no_parent = causes.finish_cause (new_file Classic) (new_directory None false) ≡ None

-- mistake: `is_past_count` allows 65536 entries
-- more entries than a classic directory can count are refused before the parent is checked; BigTIFF
-- can count them
abbrev pub many_entries : Type 0
many_entries = (d : OpenDirectory) → len d.fields ≡ 65536
    → causes.finish_cause (new_file Classic) (record d { parent = Some 1000 }) ≡ Some IntSizeError

abbrev pub many_entries_big : Type 0
many_entries_big = (d : OpenDirectory) → len d.fields ≡ 65536 → entries d.fields ≡ []
    → causes.finish_cause (new_file Big) (record d { parent = None }) ≡ None

-- mistake: `finish_cause` doesn't test the counts of entries
-- a field with more values than a classic entry can count
abbrev pub large_count : Type 0
large_count = (d : OpenDirectory) → len d.fields ≡ 1
    → entries d.fields ≡ (256, large_field) ∷ []
    → causes.finish_cause (new_file Classic) d ≡ Some IntSizeError

-- mistake: `finish_cause` doesn't test the directory's offset
-- a directory at an offset beyond four bytes is refused before its parent is checked
abbrev pub far_directory : Type 0
far_directory = (bytes : List ℕ) → length bytes ≡ 4294967296
    → causes.finish_cause (file_with Classic bytes) (new_directory (Some 4294967297) false)
    ≡ Some IntSizeError

-- offsets that a directory can't have
abbrev pub zero_pointer : Type 0
zero_pointer = causes.offset_cause Classic 0 3 ≡ Some (UsageError ZeroIfdPointer)

abbrev pub far_pointer : Type 0
far_pointer = causes.offset_cause Classic 4294967296 0 ≡ Some IntSizeError

-- mistake: `is_past` refuses numbers in BigTIFF too
abbrev pub far_pointer_big : Type 0
far_pointer_big = causes.offset_cause Big 4294967296 0 ≡ None

-- mistake: `offset_cause` allows a link past 64 bits
abbrev pub far_link : Type 0
far_link = causes.offset_cause Big 18446744073709551608 0 ≡ Some (UsageError ZeroIfdPointer)

abbrev pub last_link : Type 0
last_link = causes.offset_cause Big 18446744073709551607 0 ≡ None

-- ---- images

-- mistake: `new_image_cause` doesn't test the sides before the predictor
-- a dimension of 0 is refused before the predictor is checked
abbrev pub no_side : Type 0
no_side =
    causes.new_image_cause (record (new_file Classic) { predictor = predictor.FloatingPoint }) gray
    0 5 ≡ Some (FormatError (InvalidDimensions 0 5))

-- mistake: `predictor_cause` allows FloatingPoint
abbrev pub floating : Type 0
floating =
    causes.new_image_cause (record (new_file Classic) { predictor = predictor.FloatingPoint })
    gray_float 1 1 ≡ Some (UsageError PredictorUnavailable)

-- mistake: `is_unpredicted` allows floats
abbrev pub horizontal_float : Type 0
horizontal_float =
    causes.new_image_cause (record (new_file Classic) { predictor = predictor.Horizontal })
    gray_float 1 1 ≡ Some (UsageError PredictorIncompatible)

abbrev pub horizontal_gray : Type 0
horizontal_gray =
    causes.new_image_cause (record (new_file Classic) { predictor = predictor.Horizontal }) gray 1 1
    ≡ None

-- a second resolution at an offset beyond four bytes, and at the last possible offset
abbrev pub image_far : Type 0
image_far = (bytes : List ℕ) → length bytes ≡ 4294967288
    → causes.new_image_cause (file_with Classic bytes) gray 1 1 ≡ Some IntSizeError

abbrev pub image_last : Type 0
image_last = (bytes : List ℕ) → length bytes ≡ 4294967284
    → causes.new_image_cause (file_with Classic bytes) gray 1 1 ≡ None

abbrev pub image_far_big : Type 0
image_far_big = (bytes : List ℕ) → causes.new_image_cause (file_with Big bytes) gray 1 1 ≡ None

-- extra samples after a strip are refused before they are counted; too many extra samples
abbrev pub extra_late : Type 0
extra_late = (extra : List ExtraSamples)
    → causes.extra_samples_cause (new_file Classic) written_pixel extra
    ≡ Some (UsageError ReconfiguredAfterImageWrite)

-- mistake: `extra_samples_cause` allows 65536 samples
abbrev pub extra_many : Type 0
extra_many = (extra : List ExtraSamples) → length extra ≡ 65535
    → causes.extra_samples_cause (new_file Big) pixel extra ≡ Some IntSizeError

abbrev pub extra_one : Type 0
extra_one = causes.extra_samples_cause (new_file Classic) pixel (Unspecified ∷ []) ≡ None

-- 0 rows per strip, and rows per strip that are set after a strip
abbrev pub rows_zero : Type 0
rows_zero = causes.rows_per_strip_cause (new_file Classic) pixel 0 ≡ Some (IoError InvalidInput)

-- mistake: `is_begun` counts only from two strips on
-- mistake: `rows_per_strip_cause` allows the call after a strip
abbrev pub rows_late : Type 0
rows_late =
    causes.rows_per_strip_cause (new_file Classic) written_pixel 2 ≡ Some (IoError InvalidInput)

abbrev pub rows_two : Type 0
rows_two = causes.rows_per_strip_cause (new_file Classic) pixel 2 ≡ None

-- mistake: `resolution_cause` doesn't test the second offset
-- two resolutions, of which the second is beyond four bytes, and one resolution at that offset
abbrev pub resolutions_far : Type 0
resolutions_far = (bytes : List ℕ) → length bytes ≡ 4294967288
    → causes.resolution_cause (file_with Classic bytes) ≡ Some IntSizeError

abbrev pub resolution_last : Type 0
resolution_last = (bytes : List ℕ) → length bytes ≡ 4294967288
    → causes.one_resolution_cause (file_with Classic bytes) ≡ None

-- mistake: `one_resolution_cause` doesn't test the offset
abbrev pub resolution_far : Type 0
resolution_far = (bytes : List ℕ) → length bytes ≡ 4294967296
    → causes.one_resolution_cause (file_with Classic bytes) ≡ Some IntSizeError

abbrev pub unit_far : Type 0
unit_far = (bytes : List ℕ) → causes.resolution_unit_cause (file_with Classic bytes) ≡ None

-- the number of samples of the next strip: one, none after the last strip, and the largest one
abbrev pub count_one : Type 0
count_one = next_strip_sample_count pixel ≡ 1

abbrev pub count_none : Type 0
count_none = next_strip_sample_count written_pixel ≡ 0

-- mistake: `next_chunk_sample_count` has no largest number
abbrev pub count_largest : Type 0
count_largest = next_strip_sample_count (largest rgb) ≡ 18446744073709551615

-- three rows in strips of two rows: the last strip is shorter
abbrev pub count_short : Type 0
count_short =
    next_strip_sample_count
    (record written_pixel { width = 5; height = 3; form = strips_of 5 2 Chunky }) ≡ 5

-- mistake: `next_strip_sample_count` takes a tile for a strip
-- an image in tiles has no next strip
abbrev pub count_tile : Type 0
count_tile = next_strip_sample_count tiled ≡ 0

abbrev pub count_tiled : Type 0
count_tiled = next_chunk_sample_count tiled ≡ 256

abbrev pub strips_three : Type 0
strips_three = all_chunks (image_page (record pixel { height = 5; form = strips_of 1 2 Chunky }))
    ≡ 3

-- a strip of two samples in place of one, an empty strip after the last, and a strip beyond four
-- bytes
abbrev pub strip_two : Type 0
strip_two = causes.write_strip_cause (new_file Classic) pixel 2 2 ≡ Some (IoError InvalidData)

-- mistake: `is_past_chunks` allows an empty chunk after the last
abbrev pub strip_none_left : Type 0
strip_none_left =
    causes.write_strip_cause (new_file Classic) written_pixel 0 0 ≡ Some (IoError InvalidData)

abbrev pub strip_one : Type 0
strip_one = causes.write_strip_cause (new_file Classic) pixel 1 1 ≡ None

abbrev pub strip_far : Type 0
strip_far = (bytes : List ℕ) → length bytes ≡ 4294967296
    → causes.write_strip_cause (file_with Classic bytes) pixel 1 1 ≡ Some IntSizeError

abbrev pub strip_stored_far : Type 0
strip_stored_far =
    causes.write_strip_cause (new_file Classic) pixel 1 4294967296 ≡ Some IntSizeError

-- mistake: `write_strip_cause` takes a tile for a strip
-- an image in tiles takes no strip and no rows per strip
abbrev pub strip_tile : Type 0
strip_tile =
    causes.write_strip_cause (new_file Classic) tiled 256 256
    ≡ Some (UsageError (InvalidChunkType Strip Tile))

abbrev pub tile_whole : Type 0
tile_whole = causes.write_chunk_cause (new_file Classic) tiled 256 256 ≡ None

-- mistake: `rows_per_strip_cause` allows rows of tiles
abbrev pub rows_tile : Type 0
rows_tile = causes.rows_per_strip_cause (new_file Classic) tiled 2 ≡ Some (IoError InvalidInput)

-- tile dimensions are multiples of 16; tiles and planes are set before the first chunk, which is
-- checked first
abbrev pub tiles_zero : Type 0
tiles_zero = causes.tiles_cause (new_file Classic) pixel 0 16 ≡ Some (IoError InvalidInput)

-- mistake: `tiles_cause` allows sides that aren't multiples of 16
abbrev pub tiles_eight : Type 0
tiles_eight = causes.tiles_cause (new_file Classic) pixel 16 8 ≡ Some (IoError InvalidInput)

abbrev pub tiles_late : Type 0
tiles_late =
    causes.tiles_cause (new_file Classic) written_pixel 0 0
    ≡ Some (UsageError ReconfiguredAfterImageWrite)

abbrev pub tiles_fit : Type 0
tiles_fit = causes.tiles_cause (new_file Classic) pixel 32 16 ≡ None

-- mistake: `planar_cause` allows the call after a chunk
abbrev pub planar_late : Type 0
planar_late =
    causes.planar_cause (new_file Classic) written_pixel
    ≡ Some (UsageError ReconfiguredAfterImageWrite)

abbrev pub planar_fits : Type 0
planar_fits = causes.planar_cause (new_file Classic) pixel ≡ None

-- mistake: `write_chunk_cause` allows too many chunks
-- more than 2^32 - 1 chunks, in 2 planes with strips of one row, are refused before the samples are
-- counted
abbrev pub many_chunks : Type 0
many_chunks = causes.write_chunk_cause (new_file Big)
    (record (largest gray) { extra = Unspecified ∷ []; form = strips_of 4294967295 1 Planar }) 0 0
    ≡ Some IntSizeError

-- mistake: `write_image_data_cause` doesn't test for a product past 64 bits
-- an image with more samples than a list can contain is refused before too few samples; too few
-- samples
abbrev pub image_large : Type 0
image_large =
    causes.write_image_data_cause (new_file Classic) (largest rgb) 0 ≡ Some (IoError InvalidInput)

abbrev pub image_few : Type 0
image_few =
    causes.write_image_data_cause (new_file Classic) (largest gray) 0 ≡ Some (IoError InvalidData)

abbrev pub image_enough : Type 0
image_enough = causes.write_image_data_cause (new_file Classic) pixel 2 ≡ None

-- mistake: `write_image_data_cause` continues after a tile
-- image data can't follow a tile, but can follow a strip
abbrev pub image_tiled : Type 0
image_tiled = causes.write_image_data_cause (new_file Classic) (with_chunk tiled 24 256) 1
    ≡ Some (IoError InvalidInput)

abbrev pub image_goes_on : Type 0
image_goes_on = causes.write_image_data_cause (new_file Classic) written_pixel 1 ≡ None
