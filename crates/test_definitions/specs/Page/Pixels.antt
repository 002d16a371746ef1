-- Worked examples of samples: what a page shows, and the errors of reading it.
use Rattle.std.specs.Prelude.{◌≡◌, ℕ, ◌*◌, List, [], ◌∷◌, Some, None, Ok, Err, take, replicate}
use Rattle.tiff_base.specs.declared.color.ChunkType.TheVariants.{Strip, Tile}
use Rattle.tiff_base.specs.declared.color.ColorType.{ColorType}
use Rattle.tiff_base.specs.declared.color.ColorType.TheVariants as color
use Rattle.tiff_base.specs.declared.error.TiffError.TheVariants.{FormatError, UnsupportedError, IoError, LimitsExceeded}
use Rattle.tiff_base.specs.declared.error.TiffFormatError.TheVariants.{InconsistentSizesEncountered}
use Rattle.tiff_base.specs.declared.error.TiffUnsupportedError.TheVariants.{UnsupportedColorType, HorizontalPredictor, FloatingPointPredictor, UnsupportedCompressionMethod, UnknownInterpretation, UnsupportedSampleDepth, InterpretationWithBits}
use Rattle.tiff_base.specs.declared.io.IoKind.TheVariants.{UnexpectedEof}
use Rattle.tiff_base.specs.declared.tags.ByteOrder.{ByteOrder}
use Rattle.tiff_base.specs.declared.tags.ByteOrder.TheVariants.{LittleEndian, BigEndian}
use Rattle.tiff_base.specs.declared.tags.CompressionMethod.TheVariants as method
use Rattle.tiff_base.specs.declared.tags.ExtraSamples.TheVariants as extra
use Rattle.tiff_base.specs.declared.tags.PhotometricInterpretation.TheVariants as meaning
use Rattle.tiff_base.specs.declared.tags.PlanarConfiguration.TheVariants.{Chunky, Planar}
use Rattle.tiff_base.specs.declared.tags.Predictor.TheVariants as predictor
use Rattle.tiff_base.specs.declared.tags.SampleFormat.TheVariants as format
use Rattle.tiff_ifd.specs.declared.limits.Limits.{Limits}
use Rattle.tiff_ifd.specs.Limits.{unlimited}
use Rattle.tiff_page.specs.declared.layout.DecodingSampleType.TheVariants as type
use Rattle.tiff_page.specs.Layout.{row_bytes}
use Rattle.tiff_page.specs.Page.{PageRecord}
use Rattle.tiff_page.specs.PixelFault.{form_fault}
use Rattle.tiff_page.specs.Pixels.{shown_sample, byte_at, numbers_in, image_region, chunk_region}
use Rattle.tiff_page.specs.PixelCalls.{image_of, bytes_with_region}
use Rattle.test_definitions.specs.Files.{gray_file}
use Rattle.test_definitions.specs.Page.Layout.{gray_page}

-- the page of the file of one gray pixel
abbrev pub pixel_page : PageRecord
pixel_page = record {
  width = 1;
  height = 1;
  interpretation = meaning.BlackIsZero;
  method = method.None;
  samples = 1;
  extra = [];
  format = format.Uint;
  depth = 8;
  predictor = predictor.None;
  planar = Chunky;
  subsampling = (2, 2);
  chunk_type = Strip;
  chunk_width = 1;
  chunk_height = 1000000;
  offsets = 24 ∷ [];
  byte_counts = 1 ∷ [];
}

-- `gray_file` shows 7, and with white as 0 it shows 248
abbrev pub pixel_shown : Type 0
pixel_shown = shown_sample gray_file LittleEndian pixel_page 0 0 0 ≡ 7

-- mistake: `shown_number` is off by one
abbrev pub pixel_inverted : Type 0
pixel_inverted =
    shown_sample gray_file LittleEndian (record pixel_page { interpretation = meaning.WhiteIsZero })
    0 0 0 ≡ 248

-- one row of pixels, in a strip at offset 0
abbrev pub row_page : ℕ → PageRecord
row_page width = record pixel_page {
  width = width;
  chunk_width = width;
  chunk_height = 1;
  offsets = 0 ∷ [];
  byte_counts = 99 ∷ [];
}

-- the bytes of the first plane of an image
abbrev pub image_bytes : List ℕ → ByteOrder → PageRecord → ColorType → List ℕ
image_bytes file order p shade =
    let row = row_bytes p shade p.width in
    bytes_with_region file order p shade (image_region p) row 1 (replicate (row * p.height) 0)

-- two RGB pixels
abbrev pub rgb_row : PageRecord
rgb_row = record (row_page 2) { interpretation = meaning.RGB; samples = 3 }

-- mistake: `tabulate` goes one too far
abbrev pub rgb_bytes : Type 0
rgb_bytes =
    image_bytes (0x01 ∷ 0x02 ∷ 0x03 ∷ 0x04 ∷ 0x05 ∷ 0x06 ∷ []) LittleEndian rgb_row (color.RGB 8)
    ≡ (0x01 ∷ 0x02 ∷ 0x03 ∷ 0x04 ∷ 0x05 ∷ 0x06 ∷ [])

-- mistake: `in_row` counts sample by sample
-- the green sample of the second pixel
abbrev pub rgb_sample : Type 0
rgb_sample = shown_sample (0x01 ∷ 0x02 ∷ 0x03 ∷ 0x04 ∷ 0x05 ∷ 0x06 ∷ []) LittleEndian rgb_row 1 0 1
    ≡ 5

-- mistake: `summed_number` leaves out the first (`rows_of_differences` fails too)
-- mistake: `number_by` undoes no predictor
-- mistake: `region_byte` takes 8 bits as they are stored
-- two RGB pixels as differences
abbrev pub rgb_horizontal : Type 0
rgb_horizontal =
    image_bytes (0x0a ∷ 0x14 ∷ 0x1e ∷ 0xf6 ∷ 0xec ∷ 0xe2 ∷ []) LittleEndian (record rgb_row {
      predictor = predictor.Horizontal;
    }) (color.RGB 8)
    ≡ (0x0a ∷ 0x14 ∷ 0x1e ∷ 0x00 ∷ 0x00 ∷ 0x00 ∷ [])

-- the sum of the first two red numbers exceeds a byte
abbrev pub difference_sample : Type 0
difference_sample =
    shown_sample (0x0a ∷ 0x14 ∷ 0x1e ∷ 0xf6 ∷ 0xec ∷ 0xe2 ∷ []) LittleEndian (record rgb_row {
      predictor = predictor.Horizontal;
    }) 1 0 0
    ≡ 0

-- two RGB pixels as differences, with a fourth sample that isn't shown
abbrev pub rgb_dropped : Type 0
rgb_dropped =
    image_bytes (0x01 ∷ 0x02 ∷ 0x03 ∷ 0x09 ∷ 0x01 ∷ 0x02 ∷ 0x03 ∷ 0x00 ∷ []) LittleEndian
    (record rgb_row {
      samples = 4;
      extra = extra.Unspecified ∷ [];
      predictor = predictor.Horizontal;
    }) (color.RGB 8)
    ≡ (0x01 ∷ 0x02 ∷ 0x03 ∷ 0x02 ∷ 0x04 ∷ 0x06 ∷ [])

-- mistake: `summed_byte` leaves out the byte itself
-- mistake: `joined_number` joins in the order of the file
-- mistake: `number_by` undoes one predictor for the other
-- differences of two 2-byte numbers in byte planes, the most significant bytes first
abbrev pub byte_planes : Type 0
byte_planes =
    image_bytes (0x3c ∷ 0x00 ∷ 0xc4 ∷ 0x00 ∷ []) LittleEndian
    (record (row_page 2) {
      format = format.IEEEFP;
      depth = 16;
      predictor = predictor.FloatingPoint;
    }) (color.Gray 16)
    ≡ (0x00 ∷ 0x3c ∷ 0x00 ∷ 0x3c ∷ [])

-- mistake: `width_of` gives the width of two bytes (`wide_read` fails too)
-- mistake: `row_number` reads little-endian in every case (`big_second` of `Page/Row` fails too)
-- mistake: `number_byte` has the greatest byte first
-- a 2-byte number of a big-endian file is returned in little-endian order
abbrev pub big_endian_bytes : Type 0
big_endian_bytes =
    image_bytes (0x01 ∷ 0x02 ∷ []) BigEndian (record (row_page 1) {
      depth = 16;
    }) (color.Gray 16) ≡ (0x02 ∷ 0x01 ∷ [])

-- differences of 2-byte numbers are added in the file's byte order
abbrev pub big_endian_horizontal : Type 0
big_endian_horizontal =
    image_bytes (0x00 ∷ 0xff ∷ 0x00 ∷ 0x01 ∷ []) BigEndian (record (row_page 2) {
      depth = 16;
      predictor = predictor.Horizontal;
    }) (color.Gray 16)
    ≡ (0xff ∷ 0x00 ∷ 0x00 ∷ 0x01 ∷ [])

-- mistake: `packed_byte` inverts by the depth
-- three samples of 4 bits with white as 0: whole bytes are inverted
abbrev pub inverted_4_bits : Type 0
inverted_4_bits =
    image_bytes (0x12 ∷ 0x3f ∷ []) LittleEndian (record (row_page 3) {
      depth = 4;
      interpretation = meaning.WhiteIsZero;
    }) (color.Gray 4)
    ≡ (0xed ∷ 0xc0 ∷ [])

-- six samples of 4 bits in two tiles of four: one byte of the second tile is shown
abbrev pub tiles_page : PageRecord
tiles_page = record (row_page 6) {
  depth = 4;
  chunk_type = Tile;
  chunk_width = 4;
  offsets = 0 ∷ 2 ∷ [];
  byte_counts = 2 ∷ 2 ∷ [];
}

abbrev pub tiles_4_bits : Type 0
tiles_4_bits =
    image_bytes (0x12 ∷ 0x34 ∷ 0x56 ∷ 0x78 ∷ []) LittleEndian tiles_page (color.Gray 4)
    ≡ (0x12 ∷ 0x34 ∷ 0x56 ∷ [])

-- three PackBits samples
abbrev pub packed_bytes : Type 0
packed_bytes =
    image_bytes (0xfe ∷ 0x07 ∷ []) LittleEndian (record (row_page 3) {
      method = method.PackBits;
      byte_counts = 2 ∷ [];
    }) (color.Gray 8)
    ≡ (0x07 ∷ 0x07 ∷ 0x07 ∷ [])

-- 3 by 3 pixels in tiles of 2 by 2
abbrev pub tiled_page : PageRecord
tiled_page = record (row_page 3) {
  height = 3;
  chunk_type = Tile;
  chunk_width = 2;
  chunk_height = 2;
  offsets = 0 ∷ 4 ∷ 8 ∷ 12 ∷ [];
  byte_counts = 4 ∷ 4 ∷ 4 ∷ 4 ∷ [];
}

abbrev pub tiled_file : List ℕ
tiled_file =
    (0x01 ∷ 0x02 ∷ 0x04 ∷ 0x05 ∷ 0x03 ∷ 0xee ∷ 0x06 ∷ 0xee ∷ 0x07 ∷ 0x08 ∷ 0xee ∷ 0xee ∷ 0x09 ∷ 0xee
    ∷ 0xee ∷ 0xee ∷ [])

-- mistake: `stored_row_bytes` takes rows of the image, not of the tile
-- mistake: `chunk_data` takes the first chunk for each
-- mistake: `stored_row` takes rows as long as the clipped tile
-- mistake: `stored_number` takes the first row for each
-- mistake: `shown_sample` takes positions of the image, not of the tile
-- mistake: `image_region` has the height of a chunk
abbrev pub tiled_bytes : Type 0
tiled_bytes =
    image_bytes tiled_file LittleEndian tiled_page (color.Gray 8)
    ≡ (0x01 ∷ 0x02 ∷ 0x03 ∷ 0x04 ∷ 0x05 ∷ 0x06 ∷ 0x07 ∷ 0x08 ∷ 0x09 ∷ [])

-- in a buffer with rows 4 bytes apart, byte 4 is the first pixel of the second row, and byte 3 is a
-- gap
abbrev pub second_row : Type 0
second_row =
    byte_at tiled_file LittleEndian tiled_page (color.Gray 8) (image_region tiled_page) 4 1 4
    ≡ Some 4

abbrev pub in_gap : Type 0
in_gap =
    byte_at tiled_file LittleEndian tiled_page (color.Gray 8) (image_region tiled_page) 4 1 3
    ≡ None

-- mistake: `byte_at` has a plane too many
-- a byte past the only plane
abbrev pub past_plane : Type 0
past_plane =
    byte_at tiled_file LittleEndian tiled_page (color.Gray 8) (image_region tiled_page) 4 1 12
    ≡ None

-- the tile in the lower right corner has one pixel in the image
abbrev pub corner : Type 0
corner =
    byte_at tiled_file LittleEndian tiled_page (color.Gray 8) (chunk_region tiled_page 3) 4
    1 0
    ≡ Some 9

-- mistake: `byte_at` puts the padding of a tile into the gap (`tile_placed` of `Page/PixelCalls`
--   fails too)
abbrev pub corner_gap : Type 0
corner_gap =
    byte_at tiled_file LittleEndian tiled_page (color.Gray 8) (chunk_region tiled_page 3) 4
    1 1
    ≡ None

-- two RGB pixels in three planes: the image is the first plane, and a buffer of three planes
-- contains all
abbrev pub planar_row : PageRecord
planar_row =
    record rgb_row { planar = Planar; offsets = 0 ∷ 2 ∷ 4 ∷ []; byte_counts = 2 ∷ 2 ∷ 2 ∷ [] }

-- mistake: `stored_samples` counts all samples in a planar chunk (`third_plane` fails too)
abbrev pub first_plane : Type 0
first_plane =
    image_bytes (0x01 ∷ 0x04 ∷ 0x02 ∷ 0x05 ∷ 0x03 ∷ 0x06 ∷ []) LittleEndian planar_row (color.RGB 8)
    ≡ (0x01 ∷ 0x04 ∷ [])

-- mistake: `planar_or` is the wrong way round
abbrev pub third_plane : Type 0
third_plane =
    byte_at (0x01 ∷ 0x04 ∷ 0x02 ∷ 0x05 ∷ 0x03 ∷ 0x06 ∷ []) LittleEndian planar_row (color.RGB 8)
    (image_region planar_row) 2 3 5
    ≡ Some 6

-- mistake: `numbers_in` reads big-endian
-- numbers of two bytes each; the last is filled up with zeros
abbrev pub two_numbers : Type 0
two_numbers = numbers_in 2 (0x00 ∷ 0x3c ∷ 0x01 ∷ 0x02 ∷ []) ≡ 0x3c00 ∷ 0x0201 ∷ []

-- mistake: `numbers_in` drops the last one
abbrev pub filled_up : Type 0
filled_up = numbers_in 2 (0x01 ∷ 0x02 ∷ 0x03 ∷ []) ≡ 0x0201 ∷ 3 ∷ []

abbrev pub no_numbers : Type 0
no_numbers = numbers_in 8 [] ≡ []

-- limits for the bytes of samples, and for the bytes of a chunk in the file
abbrev pub limits : ℕ → ℕ → Limits
limits samples bytes =
    record unlimited { decoding_buffer_size = samples; intermediate_buffer_size = bytes }

-- `gray_file` is read with limits of one byte
abbrev pub pixel_read : Type 0
pixel_read =
    image_of gray_file LittleEndian pixel_page (limits 1 1)
    ≡ Ok (record { sample_type = type.U8; numbers = 7 ∷ [] })

-- a limit of no bytes for samples, or of no bytes for a chunk, refuses `gray_file`
abbrev pub no_samples : Type 0
no_samples = image_of gray_file LittleEndian pixel_page (limits 0 1) ≡ Err LimitsExceeded

abbrev pub no_chunk_bytes : Type 0
no_chunk_bytes = image_of gray_file LittleEndian pixel_page (limits 1 0) ≡ Err LimitsExceeded

-- mistake: `data_by_method` cuts plain data at the byte count
-- a byte count of 0 isn't checked if the strip isn't packed
abbrev pub count_0 : Type 0
count_0 =
    image_of gray_file LittleEndian (record pixel_page { byte_counts = 0 ∷ [] }) (limits 1 0)
    ≡ Ok (record { sample_type = type.U8; numbers = 7 ∷ [] })

-- the file is cut off before its pixel
abbrev pub pixel_cut : Type 0
pixel_cut =
    image_of (take 24 gray_file) LittleEndian pixel_page unlimited ≡ Err (IoError UnexpectedEof)

-- mistake: `is_short` refuses just enough
-- a page of 4 by 3 pixels at 8 needs a file of 20 bytes
abbrev pub just_enough : Type 0
just_enough =
    image_of (replicate 20 1) LittleEndian gray_page unlimited
    ≡ Ok (record { sample_type = type.U8; numbers = replicate 12 1 })

abbrev pub one_missing : Type 0
one_missing =
    image_of (replicate 19 1) LittleEndian gray_page unlimited ≡ Err (IoError UnexpectedEof)

-- mistake: `needed_of_row` needs the padding of the last row (`tile_read` of `Page/PixelCalls`
--   fails too)
-- mistake: `needed_bytes` needs the stored height
-- the last tile lacks bytes that aren't shown, and then a pixel
abbrev pub tile_padding : Type 0
tile_padding =
    image_of (take 13 tiled_file) LittleEndian tiled_page unlimited
    ≡ Ok (record {
      sample_type = type.U8;
      numbers = (0x01 ∷ 0x02 ∷ 0x03 ∷ 0x04 ∷ 0x05 ∷ 0x06 ∷ 0x07 ∷ 0x08 ∷ 0x09 ∷ []);
    })

abbrev pub tile_pixel : Type 0
tile_pixel =
    image_of (take 12 tiled_file) LittleEndian tiled_page unlimited ≡ Err (IoError UnexpectedEof)

-- a PackBits strip whose last block is broken
abbrev pub packed_cut : Type 0
packed_cut =
    image_of (0xff ∷ 0x07 ∷ 0xfe ∷ []) LittleEndian (record (row_page 3) {
      method = method.PackBits;
      byte_counts = 3 ∷ [];
    }) unlimited
    ≡ Err (IoError UnexpectedEof)

-- mistake: `decoded_samples` takes bytes for numbers
-- numbers of two bytes
abbrev pub wide_read : Type 0
wide_read =
    image_of (0x01 ∷ 0x02 ∷ 0x03 ∷ 0x04 ∷ []) BigEndian (record (row_page 2) { depth = 16 })
    (limits 4 99)
    ≡ Ok (record { sample_type = type.U16; numbers = 0x0102 ∷ 0x0304 ∷ [] })

-- mistake: `limit_fault` counts samples as bytes
-- two 2-byte numbers don't fit into three bytes
abbrev pub wide_limit : Type 0
wide_limit = image_of (0x01 ∷ 0x02 ∷ 0x03 ∷ 0x04 ∷ []) BigEndian (record (row_page 2) {
  depth = 16;
}) (limits 3 99) ≡ Err LimitsExceeded

-- mistake: `image_of` tests the limit before the number type (`type_told` fails too)
-- the number type is checked before the limit, and the limit of samples before the method
abbrev pub type_first : Type 0
type_first =
    image_of [] LittleEndian (record (row_page 2) { depth = 65 }) (limits 0 0)
    ≡ Err (UnsupportedError (UnsupportedSampleDepth 65))

abbrev pub limit_first : Type 0
limit_first =
    image_of [] LittleEndian (record (row_page 2) { method = method.LZW }) (limits 0 0)
    ≡ Err LimitsExceeded

abbrev pub lzw : Type 0
lzw =
    image_of [] LittleEndian (record (row_page 2) { method = method.LZW }) unlimited
    ≡ Err (UnsupportedError (UnsupportedCompressionMethod method.LZW))

-- mistake: `form_fault` is off by one at the end of the list
-- errors of a chunk: an index past the list
abbrev pub past_list : Type 0
past_list =
    form_fault pixel_page unlimited (color.Gray 8) 1
    ≡ Err (FormatError InconsistentSizesEncountered)

-- mistake: `fail_if` is the wrong way round (`past_list` fails too)
abbrev pub no_fault : Type 0
no_fault = form_fault pixel_page unlimited (color.Gray 8) 0 ≡ Ok tt

-- mistake: `is_byte_multiple` allows 12 bits
-- mistake: `depth_fault` has "or" in place of "and" (`rgb_4` fails too)
-- a depth of 12 bits
abbrev pub depth_12 : Type 0
depth_12 =
    form_fault (record pixel_page { depth = 12 }) unlimited (color.Gray 12) 0
    ≡ Err (UnsupportedError (UnsupportedColorType (color.Gray 12)))

-- RGB of 4 bits, and the horizontal predictor for gray of 4 bits
abbrev pub rgb_4 : Type 0
rgb_4 =
    form_fault (record rgb_row { depth = 4 }) unlimited (color.RGB 4) 0
    ≡ Err (UnsupportedError (UnsupportedColorType (color.RGB 4)))

-- mistake: `refuse_predictor` allows differences of few bits
abbrev pub horizontal_4 : Type 0
horizontal_4 =
    form_fault (record pixel_page { depth = 4; predictor = predictor.Horizontal }) unlimited
    (color.Gray 4) 0
    ≡ Err (UnsupportedError (HorizontalPredictor (color.Gray 4)))

-- mistake: `is_float` allows every format
-- byte planes of integers, and of one byte
abbrev pub planes_of_uint : Type 0
planes_of_uint =
    form_fault (record pixel_page { depth = 16; predictor = predictor.FloatingPoint }) unlimited
    (color.Gray 16) 0
    ≡ Err (UnsupportedError (FloatingPointPredictor (color.Gray 16)))

-- mistake: `predictor_fault` allows a float of a byte
abbrev pub planes_of_byte : Type 0
planes_of_byte =
    form_fault (record pixel_page {
      format = format.IEEEFP;
      predictor = predictor.FloatingPoint;
    }) unlimited (color.Gray 8) 0
    ≡ Err (UnsupportedError (FloatingPointPredictor (color.Gray 8)))

-- mistake: `can_invert` inverts floats (`white_first` fails too)
-- floating point, and gray of three bits, can't be inverted
abbrev pub white_float : Type 0
white_float =
    form_fault (record pixel_page {
      depth = 16;
      format = format.IEEEFP;
      interpretation = meaning.WhiteIsZero;
    }) unlimited
    (color.Gray 16) 0
    ≡ Err (UnsupportedError UnknownInterpretation)

-- mistake: `can_invert` inverts three bits
abbrev pub white_3_bits : Type 0
white_3_bits =
    form_fault (record pixel_page { depth = 3; interpretation = meaning.WhiteIsZero }) unlimited
    (color.Gray 3) 0
    ≡ Err (UnsupportedError UnknownInterpretation)

-- `gray_page` with 16 bits
abbrev pub two_bytes : PageRecord
two_bytes = record gray_page { depth = 16 }

-- errors that come before too little data, with limits that just suffice: the layout, planes that
-- are too long together, the number type
abbrev pub data_told : Type 0
data_told = image_of [] LittleEndian two_bytes (limits 24 12) ≡ Err (IoError UnexpectedEof)

abbrev pub color_told : Type 0
color_told =
    image_of [] LittleEndian (record gray_page { interpretation = meaning.ItuLab }) unlimited
    ≡ Err (UnsupportedError (InterpretationWithBits meaning.ItuLab (8 ∷ [])))

abbrev pub planes_told : Type 0
planes_told =
    image_of [] LittleEndian (record planar_row {
      width = 4294967295;
      height = 4294967295;
      chunk_width = 4294967295;
    }) unlimited
    ≡ Err LimitsExceeded

abbrev pub type_told : Type 0
type_told =
    image_of [] LittleEndian (record gray_page { depth = 65 }) (limits 0 0)
    ≡ Err (UnsupportedError (UnsupportedSampleDepth 65))

-- errors that come before too little data: the limit of samples, which comes before the method, the
-- limit of the file's bytes, and the method
abbrev pub samples_told : Type 0
samples_told = image_of [] LittleEndian two_bytes (limits 23 12) ≡ Err LimitsExceeded

abbrev pub samples_first : Type 0
samples_first = image_of [] LittleEndian (record gray_page { method = method.LZW }) (limits 11 12)
    ≡ Err LimitsExceeded

-- mistake: `image_of` drops the chunk's errors (`white_told` fails too)
abbrev pub bytes_told : Type 0
bytes_told = image_of [] LittleEndian two_bytes (limits 24 11) ≡ Err LimitsExceeded

abbrev pub lzw_told : Type 0
lzw_told =
    image_of [] LittleEndian (record gray_page { method = method.LZW }) unlimited
    ≡ Err (UnsupportedError (UnsupportedCompressionMethod method.LZW))

-- errors that come before too little data: white as 0 that can't be inverted
abbrev pub white_told : Type 0
white_told =
    image_of [] LittleEndian
    (record gray_page { format = format.Int; interpretation = meaning.WhiteIsZero }) unlimited
    ≡ Err (UnsupportedError UnknownInterpretation)

-- differences begin anew in each row
abbrev pub rows_of_differences : Type 0
rows_of_differences =
    image_bytes (1 ∷ 1 ∷ 1 ∷ 1 ∷ []) LittleEndian (record (row_page 2) {
      height = 2;
      chunk_height = 2;
      predictor = predictor.Horizontal;
    }) (color.Gray 8)
    ≡ (1 ∷ 2 ∷ 1 ∷ 2 ∷ [])

-- mistake: `summed_byte` adds each byte to the one before it (`byte_summed` of `Page/Row` fails
--   too)
-- mistake: `joined_number` takes parts without the samples
-- byte planes of two samples: each byte is added to the one two bytes before it, in both byte
-- orders
abbrev pub byte_planes_of_two : Type 0
byte_planes_of_two =
    image_bytes (0x3c ∷ 0x40 ∷ 0xc4 ∷ 0xc1 ∷ []) BigEndian
    (record (row_page 1) {
      samples = 2;
      format = format.IEEEFP;
      depth = 16;
      predictor = predictor.FloatingPoint;
    })
    (color.Multiband 16 2) ≡ (0x00 ∷ 0x3c ∷ 0x01 ∷ 0x40 ∷ [])

-- white as 0 in two bytes
abbrev pub inverted_16_bits : Type 0
inverted_16_bits =
    image_bytes (0x01 ∷ 0x02 ∷ []) LittleEndian (record (row_page 1) {
      depth = 16;
      interpretation = meaning.WhiteIsZero;
    }) (color.Gray 16)
    ≡ (0xfe ∷ 0xfd ∷ [])

-- the second tile of 4-bit samples alone, and the second plane
abbrev pub tile_4_bits : Type 0
tile_4_bits =
    byte_at (0x12 ∷ 0x34 ∷ 0x56 ∷ 0x78 ∷ []) LittleEndian tiles_page (color.Gray 4)
    (chunk_region tiles_page 1) 1 1 0
    ≡ Some 0x56

abbrev pub planar_4_page : PageRecord
planar_4_page = record (row_page 2) {
  depth = 4;
  samples = 2;
  planar = Planar;
  offsets = 0 ∷ 1 ∷ [];
  byte_counts = 1 ∷ 1 ∷ [];
}

abbrev pub planar_4_bits : Type 0
planar_4_bits =
    byte_at (0x12 ∷ 0x34 ∷ []) LittleEndian planar_4_page (color.Multiband 4 2)
    (image_region planar_4_page) 1 2 1
    ≡ Some 0x34

-- mistake: `data_by_method` doesn't cut packed data there
-- a PackBits strip is cut at its byte count
abbrev pub packed_within : Type 0
packed_within =
    image_of (0xfe ∷ 0x07 ∷ []) LittleEndian (record (row_page 3) {
      method = method.PackBits;
      byte_counts = 1 ∷ [];
    }) unlimited ≡ Err (IoError UnexpectedEof)

-- a number of eight bytes
abbrev pub eight_bytes : Type 0
eight_bytes = numbers_in 8 (0x01 ∷ 0x00 ∷ 0x00 ∷ 0x00 ∷ 0x00 ∷ 0x00 ∷ 0x00 ∷ 0x80 ∷ [])
    ≡ 0x8000_0000_0000_0001 ∷ []

-- an index past the list is refused before the depth, and the depth before the predictor
abbrev pub list_first : Type 0
list_first =
    form_fault (record pixel_page { depth = 12 }) unlimited (color.Gray 12) 1
    ≡ Err (FormatError InconsistentSizesEncountered)

-- mistake: `form_fault` tests the predictor before the depth
abbrev pub depth_first : Type 0
depth_first =
    form_fault (record pixel_page { depth = 12; predictor = predictor.FloatingPoint }) unlimited
    (color.Gray 12) 0
    ≡ Err (UnsupportedError (UnsupportedColorType (color.Gray 12)))

-- mistake: `is_supported_color` allows Lab
-- Lab is a color type that isn't read
abbrev pub lab_8 : Type 0
lab_8 =
    form_fault (record rgb_row { interpretation = meaning.IccLab }) unlimited (color.Lab 8) 0
    ≡ Err (UnsupportedError (UnsupportedColorType (color.Lab 8)))

-- mistake: `is_gray` refuses several samples of few bits
-- several samples of 4 bits are read, but not as byte planes
abbrev pub multiband_4 : Type 0
multiband_4 =
    form_fault (record pixel_page { depth = 4; samples = 2 }) unlimited (color.Multiband 4 2) 0
    ≡ Ok tt

abbrev pub planes_of_4 : Type 0
planes_of_4 =
    form_fault (record pixel_page { depth = 4; predictor = predictor.FloatingPoint }) unlimited
    (color.Gray 4) 0
    ≡ Err (UnsupportedError (FloatingPointPredictor (color.Gray 4)))

-- mistake: `is_number` refuses signed numbers
-- differences of signed numbers, and of samples without a number type; the predictor is checked
-- before the limit
abbrev pub horizontal_int : Type 0
horizontal_int =
    form_fault (record pixel_page { format = format.Int; predictor = predictor.Horizontal })
    unlimited (color.Gray 8) 0
    ≡ Ok tt

-- mistake: `predictor_fault` tests no format
abbrev pub horizontal_void : Type 0
horizontal_void =
    form_fault (record pixel_page { format = format.Void; predictor = predictor.Horizontal })
    (limits 0 0) (color.Gray 8) 0
    ≡ Err (UnsupportedError (HorizontalPredictor (color.Gray 8)))

-- byte planes of 2-byte numbers
abbrev pub planes_of_float : Type 0
planes_of_float =
    form_fault (record pixel_page {
      depth = 16;
      format = format.IEEEFP;
      predictor = predictor.FloatingPoint;
    }) unlimited (color.Gray 16) 0
    ≡ Ok tt

-- mistake: `form_fault` refuses as many bytes as the limit
-- a chunk with as many bytes as the limit, and with one more
abbrev pub bytes_within : Type 0
bytes_within = form_fault pixel_page (limits 0 1) (color.Gray 8) 0 ≡ Ok tt

abbrev pub bytes_past : Type 0
bytes_past = form_fault pixel_page (limits 0 0) (color.Gray 8) 0 ≡ Err LimitsExceeded

-- mistake: `method_fault` refuses PackBits
-- a PackBits chunk has no form error, and a fax chunk has one, which is found before white as 0 is
-- checked
abbrev pub packed_form : Type 0
packed_form = form_fault (record pixel_page { method = method.PackBits }) unlimited (color.Gray 8) 0
    ≡ Ok tt

abbrev pub method_first : Type 0
method_first =
    form_fault (record pixel_page {
      method = method.Fax4;
      samples = 2;
      interpretation = meaning.WhiteIsZero;
    }) unlimited (color.Multiband 8 2) 0
    ≡ Err (UnsupportedError (UnsupportedCompressionMethod method.Fax4))

-- mistake: `inversion_fault` refuses no page
-- several samples can't be inverted, and 4-bit samples can; this is checked before too little data
abbrev pub white_several : Type 0
white_several =
    form_fault (record pixel_page { samples = 2; interpretation = meaning.WhiteIsZero }) unlimited
    (color.Multiband 8 2) 0
    ≡ Err (UnsupportedError UnknownInterpretation)

abbrev pub white_4_bits : Type 0
white_4_bits =
    form_fault (record pixel_page { depth = 4; interpretation = meaning.WhiteIsZero }) unlimited
    (color.Gray 4) 0
    ≡ Ok tt

-- mistake: `chunk_fault` tests for too few data before the rest
abbrev pub white_first : Type 0
white_first =
    image_of [] LittleEndian
    (record pixel_page { format = format.Int; interpretation = meaning.WhiteIsZero }) unlimited
    ≡ Err (UnsupportedError UnknownInterpretation)

-- mistake: `each_below` returns the last error
-- the error of the first chunk is returned; the second has another one
abbrev pub first_chunk : Type 0
first_chunk =
    image_of (replicate 11 1) LittleEndian (record gray_page {
      chunk_height = 2;
      offsets = 4 ∷ 0 ∷ [];
      byte_counts = 0 ∷ 9 ∷ [];
    }) (limits 99 8)
    ≡ Err (IoError UnexpectedEof)

abbrev pub second_chunk : Type 0
second_chunk =
    image_of (replicate 12 1) LittleEndian (record gray_page {
      chunk_height = 2;
      offsets = 4 ∷ 0 ∷ [];
      byte_counts = 0 ∷ 9 ∷ [];
    }) (limits 99 8)
    ≡ Err LimitsExceeded
