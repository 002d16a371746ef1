-- Worked examples of calls that read pixels.
use Rattle.std.specs.Prelude.{◌≡◌, ℕ, List, [], ◌∷◌, ◌++◌, ◌^◌, Result, Ok, Err, take, drop, replicate}
use Rattle.std.specs.List.{range_with_len}
use Rattle.tiff_base.specs.declared.color.ChunkType.TheVariants.{Tile}
use Rattle.tiff_base.specs.declared.color.ColorType.TheVariants as color
use Rattle.tiff_base.specs.declared.error.TiffError.{TiffError}
use Rattle.tiff_base.specs.declared.error.TiffError.TheVariants.{FormatError, UnsupportedError, UsageError, IoError, LimitsExceeded}
use Rattle.tiff_base.specs.declared.error.TiffFormatError.TheVariants.{InconsistentSizesEncountered}
use Rattle.tiff_base.specs.declared.error.TiffUnsupportedError.TheVariants.{UnsupportedCompressionMethod, UnsupportedSampleFormat, UnsupportedSampleDepth}
use Rattle.tiff_base.specs.declared.error.UsageError.TheVariants.{InvalidCodingUnit, InsufficientOutputBufferSize, InsufficientOutputRowStride}
use Rattle.tiff_base.specs.declared.io.IoKind.TheVariants.{UnexpectedEof}
use Rattle.tiff_base.specs.declared.tags.ByteOrder.TheVariants.{LittleEndian, BigEndian}
use Rattle.tiff_base.specs.declared.tags.CompressionMethod.TheVariants as method
use Rattle.tiff_base.specs.declared.tags.ExtraSamples.TheVariants as extra
use Rattle.tiff_base.specs.declared.tags.PlanarConfiguration.TheVariants.{Planar}
use Rattle.tiff_base.specs.declared.tags.Predictor.TheVariants as predictor
use Rattle.tiff_base.specs.declared.tags.SampleFormat.TheVariants as format
use Rattle.tiff_ifd.specs.Limits.{unlimited}
use Rattle.tiff_page.specs.declared.layout.DecodingSampleType.TheVariants as type
use Rattle.tiff_page.specs.Page.{PageRecord}
use Rattle.tiff_page.specs.Pixels.{image_region, chunk_region}
use Rattle.tiff_page.specs.Image.{Decoded}
use Rattle.tiff_page.specs.PixelCalls.{image_of, bytes_with_region, read_image_bytes, read_image_to_buffer, read_chunk, read_chunk_bytes, read_chunk_to_buffer, read_coding_unit_bytes}
use Rattle.test_definitions.specs.Files.{gray_file}
use Rattle.test_definitions.specs.Page.Pixels.{pixel_page, row_page, rgb_row, planar_row, tiled_page, tiled_file, limits}
use Rattle.test_definitions.specs.Page.Buffers.{of_bytes, largest_page}

-- numbers of one byte
abbrev pub bytes : List ℕ → Decoded
bytes numbers = record { sample_type = type.U8; numbers = numbers }

-- the first 16 of 256 numbers, and the last 16
abbrev pub rows_of : Result Decoded TiffError → List ℕ × List ℕ
rows_of (Ok d) = (take 16 d.numbers, drop 240 d.numbers)
rows_of (Err e) = ([], [])

-- two planes of 3 by 3 samples in tiles of 2 by 2; each byte of chunk c is c + 1
abbrev pub two_planes : PageRecord
two_planes = record tiled_page {
  samples = 2;
  planar = Planar;
  offsets = 0 ∷ 4 ∷ 8 ∷ 12 ∷ 16 ∷ 20 ∷ 24 ∷ 28 ∷ [];
  byte_counts = replicate 8 4;
}

abbrev pub tiles : List ℕ
tiles = replicate 4 1 ++ replicate 4 2 ++ replicate 4 3 ++ replicate 4 4 ++ replicate 4 5
    ++ replicate 4 6
    ++ replicate 4 7 ++ replicate 4 8

abbrev pub first_plane : List ℕ
first_plane = 1 ∷ 1 ∷ 2 ∷ 1 ∷ 1 ∷ 2 ∷ 3 ∷ 3 ∷ 4 ∷ []

abbrev pub second_plane : List ℕ
second_plane = 5 ∷ 5 ∷ 6 ∷ 5 ∷ 5 ∷ 6 ∷ 7 ∷ 7 ∷ 8 ∷ []

-- the image of two planes is the first plane
abbrev pub plane_read : Type 0
plane_read = image_of tiles LittleEndian two_planes unlimited ≡ Ok (bytes first_plane)

-- mistake: `number_size` doubles the number of bytes
-- mistake: `chunk_of_pixel` interleaves the planes (`chunk_of_plane` fails too)
-- mistake: `fill_buffer` places one plane (`unit_read` fails too)
-- a slice of 20 bytes takes both planes, and two of its bytes stay
abbrev pub both_planes : Type 0
both_planes =
    read_image_bytes tiles LittleEndian two_planes unlimited (replicate 20 170)
    ≡ Ok (first_plane ++ second_plane ++ replicate 2 170)

-- a slice of 17 bytes takes one plane
abbrev pub only_plane : Type 0
only_plane =
    read_image_bytes tiles LittleEndian two_planes unlimited (replicate 17 170)
    ≡ Ok (first_plane ++ replicate 8 170)

-- mistake: `planes_used` counts more planes than there are
-- a slice of 27 bytes takes no third plane
abbrev pub no_third_plane : Type 0
no_third_plane =
    read_image_bytes tiles LittleEndian two_planes unlimited (replicate 27 170)
    ≡ Ok (first_plane ++ second_plane ++ replicate 9 170)

-- mistake: `room_fault` exchanges the two numbers
-- mistake: `read_image_bytes` tests no room
-- a slice of 8 bytes takes no plane, whatever errors the chunks have
abbrev pub no_room : Type 0
no_room =
    read_image_bytes [] LittleEndian (record two_planes { method = method.LZW }) unlimited
    (replicate 8 170)
    ≡ Err (UsageError (InsufficientOutputBufferSize 9 8))

-- the first chunk of the second plane has an error, and the second chunk of the first plane has
-- another one: the error of the first chunk is returned, unless its plane isn't read
abbrev pub two_faults : PageRecord
two_faults = record two_planes {
  offsets = 0 ∷ 40 ∷ 8 ∷ 12 ∷ 16 ∷ 20 ∷ 24 ∷ 28 ∷ [];
  byte_counts = 4 ∷ 4 ∷ 4 ∷ 4 ∷ 9 ∷ 4 ∷ 4 ∷ 4 ∷ [];
}

-- mistake: `part_fault` goes plane after plane
abbrev pub first_chunk_first : Type 0
first_chunk_first =
    read_image_bytes tiles LittleEndian two_faults (limits 99 8) (replicate 18 170)
    ≡ Err LimitsExceeded

-- mistake: `image_part` takes the first chunk alone
abbrev pub plane_not_read : Type 0
plane_not_read =
    read_image_bytes tiles LittleEndian two_faults (limits 99 8) (replicate 17 170)
    ≡ Err (IoError UnexpectedEof)

-- two planes with the largest dimensions have too many bytes, whatever the room is
abbrev pub too_many_bytes : Type 0
too_many_bytes =
    read_image_bytes [] LittleEndian (record largest_page { samples = 2; planar = Planar })
    unlimited []
    ≡ Err LimitsExceeded

-- mistake: `image_of` doesn't test the planes (`planes_told` of `Page/Pixels` fails too)
abbrev pub image_planes : Type 0
image_planes =
    image_of [] LittleEndian
    (record largest_page { samples = 2; planar = Planar; format = format.Void }) unlimited
    ≡ Err LimitsExceeded

-- a pixel of two samples, of which one is past the strip's byte count
abbrev pub past_count : Type 0
past_count =
    image_of gray_file LittleEndian (record pixel_page { samples = 2 }) unlimited
    ≡ Ok (bytes (7 ∷ 14 ∷ []))

-- a strip past the end of the file
abbrev pub past_end : Type 0
past_end =
    image_of gray_file LittleEndian (record pixel_page { offsets = 0xffff_ffff ∷ [] }) unlimited
    ≡ Err (IoError UnexpectedEof)

-- floating point of 8 bits, and samples without a number type
abbrev pub float_8 : Type 0
float_8 =
    image_of gray_file LittleEndian (record pixel_page { format = format.IEEEFP }) unlimited
    ≡ Err (UnsupportedError (UnsupportedSampleDepth 8))

abbrev pub void : Type 0
void =
    image_of gray_file LittleEndian (record pixel_page { format = format.Void }) unlimited
    ≡ Err (UnsupportedError (UnsupportedSampleFormat (format.Void ∷ [])))

-- mistake: `bytes_with_region` puts zeros into the gap (`both_planes` fails too)
-- a tile in a buffer with rows two bytes apart, and the image with rows four bytes apart: bytes
-- outside the rows stay
abbrev pub tile_placed : Type 0
tile_placed =
    bytes_with_region tiled_file LittleEndian tiled_page (color.Gray 8) (chunk_region tiled_page 1)
    2 1
    (replicate 5 170)
    ≡ (3 ∷ 170 ∷ 6 ∷ 170 ∷ 170 ∷ [])

abbrev pub image_placed : Type 0
image_placed =
    bytes_with_region tiled_file LittleEndian tiled_page (color.Gray 8) (image_region tiled_page) 4
    1
    (replicate 13 170)
    ≡ (1 ∷ 2 ∷ 3 ∷ 170 ∷ 4 ∷ 5 ∷ 6 ∷ 170 ∷ 7 ∷ 8 ∷ 9 ∷ 170 ∷ 170 ∷ [])

-- three planes of two bytes: a limit of six reads all, and a smaller limit the first; the layout
-- names all
abbrev pub planes : List ℕ
planes = 1 ∷ 4 ∷ 2 ∷ 5 ∷ 3 ∷ 6 ∷ []

-- mistake: `read_image_to_buffer` refuses as many bytes as the limit
abbrev pub all_planes_read : Type 0
all_planes_read =
    read_image_to_buffer planes LittleEndian planar_row (limits 6 99)
    ≡ Ok (of_bytes 2 2 3 6, bytes planes)

-- mistake: `read_image_to_buffer` doesn't fall back to one plane
abbrev pub first_plane_read : Type 0
first_plane_read =
    read_image_to_buffer planes LittleEndian planar_row (limits 5 99)
    ≡ Ok (of_bytes 2 2 3 6, bytes (1 ∷ 4 ∷ []))

abbrev pub no_plane_read : Type 0
no_plane_read =
    read_image_to_buffer planes LittleEndian planar_row (limits 1 99) ≡ Err LimitsExceeded

-- mistake: `limit_fault` rounds down (`too_many_zeros` of `Page/Buffers` fails too)
-- three bytes are within the limit, and two 2-byte numbers aren't
abbrev pub within_but_more : Type 0
within_but_more =
    read_image_to_buffer planes LittleEndian (record (row_page 2) { depth = 12 }) (limits 3 99)
    ≡ Err LimitsExceeded

-- an error in a plane that is read, and an error in a plane that isn't
abbrev pub third_plane_cut : Type 0
third_plane_cut =
    read_image_to_buffer (take 5 planes) LittleEndian planar_row (limits 6 99)
    ≡ Err (IoError UnexpectedEof)

abbrev pub third_plane_unread : Type 0
third_plane_unread =
    read_image_to_buffer (take 5 planes) LittleEndian planar_row (limits 5 99)
    ≡ Ok (of_bytes 2 2 3 6, bytes (1 ∷ 4 ∷ []))

-- mistake: `chunk_region` takes the first plane for each
-- chunks of the second plane, and a chunk past the list
abbrev pub chunk_of_plane : Type 0
chunk_of_plane = read_chunk tiles LittleEndian two_planes unlimited 5 ≡ Ok (bytes (6 ∷ 6 ∷ []))

-- mistake: `chunk_part` takes the errors of the first chunk (`tile_cut` fails too)
abbrev pub chunk_past_list : Type 0
chunk_past_list =
    read_chunk tiles LittleEndian two_planes unlimited 8
    ≡ Err (FormatError InconsistentSizesEncountered)

-- two 2-byte numbers as differences, in a big-endian file
abbrev pub chunk_of_differences : Type 0
chunk_of_differences =
    read_chunk (0x00 ∷ 0x01 ∷ 0xff ∷ 0xff ∷ []) BigEndian (record (row_page 2) {
      depth = 16;
      predictor = predictor.Horizontal;
    }) unlimited 0
    ≡ Ok (record { sample_type = type.U16; numbers = 1 ∷ 0 ∷ [] })

-- a sample that isn't shown is needed too, even in the last pixel
abbrev pub dropped_row : PageRecord
dropped_row =
    record rgb_row { samples = 4; extra = extra.Unspecified ∷ []; predictor = predictor.Horizontal }

abbrev pub dropped_read : Type 0
dropped_read =
    read_chunk (1 ∷ 2 ∷ 3 ∷ 9 ∷ 1 ∷ 2 ∷ 3 ∷ 0 ∷ []) LittleEndian dropped_row unlimited 0
    ≡ Ok (bytes (1 ∷ 2 ∷ 3 ∷ 2 ∷ 4 ∷ 6 ∷ []))

-- mistake: `needs_whole_rows` needs less than the whole row where samples are dropped
abbrev pub dropped_cut : Type 0
dropped_cut =
    read_chunk (1 ∷ 2 ∷ 3 ∷ 9 ∷ 1 ∷ 2 ∷ 3 ∷ []) LittleEndian dropped_row unlimited 0
    ≡ Err (IoError UnexpectedEof)

-- mistake: `read_chunk` doesn't clip the chunk
-- the last row of a tile that the right edge cuts needs one byte
abbrev pub tile_read : Type 0
tile_read =
    read_chunk (take 7 tiled_file) LittleEndian tiled_page unlimited 1 ≡ Ok (bytes (3 ∷ 6 ∷ []))

abbrev pub tile_cut : Type 0
tile_cut =
    read_chunk (take 6 tiled_file) LittleEndian tiled_page unlimited 1 ≡ Err (IoError UnexpectedEof)

-- with byte planes the last row of a cut tile needs all its bytes
abbrev pub float_tiles : PageRecord
float_tiles = record (row_page 3) {
  depth = 16;
  format = format.IEEEFP;
  predictor = predictor.FloatingPoint;
  chunk_type = Tile;
  chunk_width = 2;
  offsets = 0 ∷ 4 ∷ [];
  byte_counts = 4 ∷ 4 ∷ [];
}

abbrev pub float_file : List ℕ
float_file = 0x00 ∷ 0x00 ∷ 0x00 ∷ 0x00 ∷ 0x3c ∷ 0x00 ∷ 0xc4 ∷ 0x00 ∷ []

abbrev pub float_read : Type 0
float_read =
    read_chunk float_file LittleEndian float_tiles unlimited 1
    ≡ Ok (record { sample_type = type.F16; numbers = 0x3c00 ∷ [] })

-- mistake: `needs_whole_rows` needs less than the whole row with byte planes
abbrev pub float_cut : Type 0
float_cut =
    read_chunk (take 7 float_file) LittleEndian float_tiles unlimited 1
    ≡ Err (IoError UnexpectedEof)

-- mistake: `form_fault` tests the method before the limit
-- the limit of a chunk's bytes is checked before the method, the limit of samples before both, and
-- the number type first
abbrev pub bytes_before_method : Type 0
bytes_before_method =
    read_chunk [] LittleEndian (record (row_page 2) { method = method.LZW }) (limits 99 98) 0
    ≡ Err LimitsExceeded

abbrev pub method_unread : Type 0
method_unread =
    read_chunk [] LittleEndian (record (row_page 2) { method = method.LZW }) (limits 2 99) 0
    ≡ Err (UnsupportedError (UnsupportedCompressionMethod method.LZW))

-- mistake: `samples` tests the chunks first
abbrev pub type_before_limit : Type 0
type_before_limit =
    read_chunk [] LittleEndian (record (row_page 2) { format = format.Void }) (limits 0 0) 0
    ≡ Err (UnsupportedError (UnsupportedSampleFormat (format.Void ∷ [])))

-- the size of the planes is checked before the number type
abbrev pub planes_before_type : Type 0
planes_before_type =
    read_chunk [] LittleEndian (record largest_page {
      samples = 2;
      planar = Planar;
      format = format.Void;
    }) unlimited 0
    ≡ Err LimitsExceeded

-- mistake: `read_chunk_bytes` reads as many planes as there is room for
-- a chunk is written to a slice as one plane, though there is room for two
abbrev pub chunk_in_slice : Type 0
chunk_in_slice =
    read_chunk_bytes tiles LittleEndian two_planes unlimited 2 (replicate 4 170)
    ≡ Ok (3 ∷ 3 ∷ 170 ∷ 170 ∷ [])

abbrev pub chunk_of_second : Type 0
chunk_of_second =
    read_chunk_bytes tiles LittleEndian two_planes unlimited 6 (replicate 3 170)
    ≡ Ok (7 ∷ 7 ∷ 170 ∷ [])

-- missing room is refused before an index past the list; a slice needs no number type
abbrev pub chunk_no_room : Type 0
chunk_no_room =
    read_chunk_bytes tiles LittleEndian two_planes unlimited 8 (replicate 3 170)
    ≡ Err (UsageError (InsufficientOutputBufferSize 4 3))

-- mistake: `room_fault` refuses just enough
abbrev pub void_in_slice : Type 0
void_in_slice =
    read_chunk_bytes (7 ∷ 8 ∷ []) LittleEndian (record (row_page 2) {
      format = format.Void;
    }) (limits 0 99) 0 (replicate 2 170)
    ≡ Ok (7 ∷ 8 ∷ [])

-- a cut tile in rows as long as the tile: the file's bytes beside the image aren't shown
abbrev pub tile_strided : Type 0
tile_strided =
    read_chunk_to_buffer tiled_file LittleEndian tiled_page unlimited 1 2
    ≡ Ok (bytes (3 ∷ 0 ∷ 6 ∷ 0 ∷ []))

-- the first and the last row of a tile of 16 by 16, of which four columns are in the image
abbrev pub wide_tiles : PageRecord
wide_tiles = record tiled_page {
  width = 20;
  height = 20;
  chunk_width = 16;
  chunk_height = 16;
  offsets = 0 ∷ 0 ∷ 0 ∷ 0 ∷ [];
  byte_counts = replicate 4 256;
}

abbrev pub first_16 : List ℕ
first_16 = 0 ∷ 1 ∷ 2 ∷ 3 ∷ replicate 12 0

abbrev pub last_16 : List ℕ
last_16 = 0xf0 ∷ 0xf1 ∷ 0xf2 ∷ 0xf3 ∷ replicate 12 0

abbrev pub wide_tile_rows : Type 0
wide_tile_rows =
    rows_of (read_chunk_to_buffer (range_with_len 0 256) LittleEndian wide_tiles unlimited 1 16)
    ≡ (first_16, last_16)

abbrev pub wide_tile_short : Type 0
wide_tile_short =
    read_chunk_to_buffer (range_with_len 0 256) LittleEndian wide_tiles unlimited 1 3
    ≡ Err (UsageError (InsufficientOutputRowStride 4 3))

-- mistake: `stride_fault` refuses rows that touch
-- rows without gaps
abbrev pub no_gaps : Type 0
no_gaps =
    read_chunk_to_buffer tiled_file LittleEndian tiled_page unlimited 0 2
    ≡ Ok (bytes (1 ∷ 2 ∷ 4 ∷ 5 ∷ []))

-- mistake: `read_chunk_to_buffer` tests the number type before the stride
-- a stride of 0 is refused before too many bytes, and those before a missing number type
abbrev pub short_stride : Type 0
short_stride =
    read_chunk_to_buffer tiled_file LittleEndian (record tiled_page { format = format.Void })
    unlimited 1 0
    ≡ Err (UsageError (InsufficientOutputRowStride 1 0))

abbrev pub long_stride : Type 0
long_stride =
    read_chunk_to_buffer tiled_file LittleEndian (record tiled_page { format = format.Void })
    unlimited 1 (2 ^ 63)
    ≡ Err LimitsExceeded

-- mistake: `read_chunk_to_buffer` takes the clipped height
-- a stride is tested with the stored height of a chunk, not with its height in the image
abbrev pub long_stride_of_last : Type 0
long_stride_of_last =
    read_chunk_to_buffer tiled_file LittleEndian (record tiled_page { format = format.Void })
    unlimited 3 (2 ^ 63)
    ≡ Err LimitsExceeded

-- gaps between rows count as samples; the planes are checked before the stride
abbrev pub gaps_count : Type 0
gaps_count =
    read_chunk_to_buffer tiled_file LittleEndian tiled_page (limits 3 99) 1 2 ≡ Err LimitsExceeded

abbrev pub planes_before_stride : Type 0
planes_before_stride =
    read_chunk_to_buffer [] LittleEndian (record largest_page { samples = 2; planar = Planar })
    unlimited 0 0
    ≡ Err LimitsExceeded

-- 2-byte numbers in rows of three bytes: the last number is filled up with zeros
abbrev pub odd_stride : Type 0
odd_stride =
    read_chunk_to_buffer (1 ∷ 2 ∷ []) LittleEndian (record (row_page 1) { depth = 16 }) unlimited 0
    3
    ≡ Ok (record { sample_type = type.U16; numbers = 0x0201 ∷ 0 ∷ [] })

-- mistake: `read_coding_unit_bytes` reads one plane
-- a coding unit contains the chunk of each plane
abbrev pub unit_read : Type 0
unit_read =
    read_coding_unit_bytes tiles LittleEndian two_planes unlimited 1 (replicate 4 170)
    ≡ Ok (2 ∷ 2 ∷ 6 ∷ 6 ∷ [])

abbrev pub unit_of_one_plane : Type 0
unit_of_one_plane =
    read_coding_unit_bytes tiles LittleEndian two_planes unlimited 1 (replicate 3 170)
    ≡ Ok (2 ∷ 2 ∷ 170 ∷ [])

-- mistake: `packed_byte` forgets the plane (`planar_4_bits` of `Page/Pixels` fails too)
-- a coding unit of samples of 4 bits
abbrev pub unit_of_4_bits : Type 0
unit_of_4_bits =
    read_coding_unit_bytes (0x12 ∷ 0x34 ∷ []) LittleEndian
    (record (row_page 2) {
      depth = 4;
      samples = 2;
      planar = Planar;
      offsets = 0 ∷ 1 ∷ [];
      byte_counts = 1 ∷ 1 ∷ [];
    })
    unlimited 0 (replicate 3 170)
    ≡ Ok (0x12 ∷ 0x34 ∷ 170 ∷ [])

-- mistake: `read_coding_unit_bytes` tests the room before the unit
-- a coding unit past the last is refused before the room is checked, and too many bytes before it
abbrev pub unit_past : Type 0
unit_past =
    read_coding_unit_bytes tiles LittleEndian two_planes unlimited 4 []
    ≡ Err (UsageError (InvalidCodingUnit 4 4))

abbrev pub unit_no_room : Type 0
unit_no_room =
    read_coding_unit_bytes [] LittleEndian two_planes unlimited 1 (170 ∷ [])
    ≡ Err (UsageError (InsufficientOutputBufferSize 2 1))

abbrev pub unit_too_long : Type 0
unit_too_long =
    read_coding_unit_bytes [] LittleEndian (record largest_page { samples = 2; planar = Planar })
    unlimited 1 []
    ≡ Err LimitsExceeded

-- the index of a coding unit of a chunky page is checked too
abbrev pub chunky_unit_past : Type 0
chunky_unit_past =
    read_coding_unit_bytes tiled_file LittleEndian tiled_page unlimited 4 (replicate 9 170)
    ≡ Err (UsageError (InvalidCodingUnit 4 4))

-- the chunk of the second plane is cut off
abbrev pub unit_cut : Type 0
unit_cut =
    read_coding_unit_bytes (take 22 tiles) LittleEndian two_planes unlimited 1 (replicate 4 170)
    ≡ Err (IoError UnexpectedEof)
