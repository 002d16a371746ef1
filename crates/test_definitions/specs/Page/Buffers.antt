-- Worked examples of buffer layouts, and of counts of chunks.
use Rattle.std.specs.Prelude.{◌≡◌, ℕ, [], ◌∷◌, Some, None, Ok, Err}
use Rattle.tiff_base.specs.declared.color.ChunkType.TheVariants.{Strip, Tile}
use Rattle.tiff_base.specs.declared.error.TiffError.TheVariants.{UnsupportedError, UsageError, LimitsExceeded, IntSizeError}
use Rattle.tiff_base.specs.declared.error.TiffUnsupportedError.TheVariants.{UnknownInterpretation, UnsupportedSampleFormat, InterpretationWithBits, MisalignedTileBoundaries}
use Rattle.tiff_base.specs.declared.error.UsageError.TheVariants.{InvalidChunkType, InvalidCodingUnit}
use Rattle.tiff_base.specs.declared.tags.PhotometricInterpretation.TheVariants as meaning
use Rattle.tiff_base.specs.declared.tags.PlanarConfiguration.TheVariants.{Planar}
use Rattle.tiff_base.specs.declared.tags.SampleFormat.TheVariants as format
use Rattle.tiff_page.specs.declared.layout.BufferLayoutPreference.{BufferLayoutPreference}
use Rattle.tiff_page.specs.declared.layout.DecodingSampleType.TheVariants as type
use Rattle.tiff_page.specs.Page.{PageRecord}
use Rattle.tiff_page.specs.Counts.{chunk_dimensions, strip_count, tile_count}
use Rattle.tiff_page.specs.Rect.{chunk_data_dimensions}
use Rattle.tiff_page.specs.Buffers.{image_buffer_layout, image_chunk_buffer_layout, image_coding_unit_layout, resized_samples}
use Rattle.test_definitions.specs.Page.Layout.{gray_page, planar_tiles, rgb_page}
use Rattle.test_definitions.specs.Page.Pixels.{limits}

-- a strip with more rows than the image keeps its own height, and has the image's rows in the image
abbrev pub long_strip : PageRecord
long_strip = record gray_page { chunk_height = 1000000 }

-- mistake: `chunk_dimensions` clips the sides to the image
abbrev pub long_dimensions : Type 0
long_dimensions = chunk_dimensions long_strip ≡ (4, 1000000)

abbrev pub tile_dimensions : Type 0
tile_dimensions = chunk_dimensions planar_tiles ≡ (16, 16)

abbrev pub long_data : Type 0
long_data = chunk_data_dimensions long_strip 0 ≡ (4, 3)

-- mistake: `chunk_data_dimensions` doesn't clip the width
-- the corner of the second plane; an index past all planes is that of a chunk of the first plane
abbrev pub corner_data : Type 0
corner_data = chunk_data_dimensions planar_tiles 7 ≡ (4, 4)

abbrev pub past_data : Type 0
past_data = chunk_data_dimensions planar_tiles 9 ≡ (4, 16)

-- three rows in strips of two rows are two strips; three planes have six
abbrev pub strips_of_plane : Type 0
strips_of_plane = strip_count (record gray_page { chunk_height = 2 }) ≡ Ok 2

-- mistake: `all_chunks` counts the strips of one plane
abbrev pub strips_of_planes : Type 0
strips_of_planes = strip_count (record rgb_page { chunk_height = 2; planar = Planar }) ≡ Ok 6

-- mistake: `strip_count` is off by one at the largest `u32`
-- the largest number of rows per strip, for an image of one row, and of two
abbrev pub most_rows : Type 0
most_rows = strip_count (record gray_page { height = 1; chunk_height = 4294967295 }) ≡ Ok 1

abbrev pub too_many_rows : Type 0
too_many_rows = strip_count (record gray_page { height = 2; chunk_height = 4294967295 })
    ≡ Err IntSizeError

-- mistake: `strip_count` tests the size before the kind
-- tiles aren't strips, whatever their height; strips aren't tiles
abbrev pub no_strips : Type 0
no_strips =
    strip_count (record planar_tiles { chunk_height = 4294967295 })
    ≡ Err (UsageError (InvalidChunkType Strip Tile))

abbrev pub tiles_of_planes : Type 0
tiles_of_planes = tile_count planar_tiles ≡ Ok 8

-- mistake: `tile_count` exchanges expected and actual
abbrev pub no_tiles : Type 0
no_tiles = tile_count gray_page ≡ Err (UsageError (InvalidChunkType Tile Strip))

-- a buffer of samples of one byte
abbrev pub of_bytes : ℕ → ℕ → ℕ → ℕ → BufferLayoutPreference
of_bytes len row planes complete = record {
  len = len;
  sample_format = format.Uint;
  sample_type = Some type.U8;
  row_stride = Some row;
  planes = planes;
  plane_stride = Some len;
  complete_len = complete;
}

-- mistake: `all_planes` has the length of all planes (`planar_unit` fails too)
-- mistake: `image_buffer_layout` has a chunk for the image
-- the layouts of an image with two planes, and with three
abbrev pub two_planes : Type 0
two_planes = image_buffer_layout planar_tiles ≡ Ok (of_bytes 400 20 2 800)

-- mistake: `planes` counts one plane in a planar page (`two_planes` fails too)
abbrev pub three_planes : Type 0
three_planes =
    image_buffer_layout (record rgb_page {
      width = 374;
      height = 499;
      planar = Planar;
      chunk_width = 374;
      chunk_height = 499;
    })
    ≡ Ok (of_bytes 186626 374 3 559878)

-- chunky samples are one plane
abbrev pub one_plane : Type 0
one_plane = image_buffer_layout rgb_page ≡ Ok (of_bytes 36 12 1 36)

-- a sample of 12 bits
abbrev pub of_12_bits : Type 0
of_12_bits =
    image_buffer_layout (record gray_page { width = 1; height = 1; depth = 12 })
    ≡ Ok (record (of_bytes 2 2 1 2) { sample_type = Some type.U16 })

-- a sample without a number type: the layout of an image has none, and that of a chunk is an error
abbrev pub void_page : PageRecord
void_page = record gray_page { format = format.Void }

-- mistake: `type_known` takes bytes for a page without a number type
abbrev pub void_image : Type 0
void_image =
    image_buffer_layout void_page
    ≡ Ok (record (of_bytes 12 4 1 12) { sample_format = format.Void; sample_type = None })

abbrev pub float_image : Type 0
float_image =
    image_buffer_layout (record gray_page { format = format.IEEEFP })
    ≡ Ok (record (of_bytes 12 4 1 12) { sample_format = format.IEEEFP; sample_type = None })

abbrev pub void_chunk : Type 0
void_chunk =
    image_chunk_buffer_layout void_page 0
    ≡ Err (UnsupportedError (UnsupportedSampleFormat (format.Void ∷ [])))

-- the largest dimensions: one plane has less than 2^64 bytes, two planes don't, and a chunk doesn't
-- have less than 2^63
abbrev pub largest_page : PageRecord
largest_page = record gray_page {
  width = 4294967295;
  height = 4294967295;
  chunk_width = 4294967295;
  chunk_height = 4294967295;
}

abbrev pub largest_image : Type 0
largest_image =
    image_buffer_layout largest_page
    ≡ Ok (of_bytes 18446744065119617025 4294967295 1 18446744065119617025)

-- mistake: `planes_layout` doesn't test the planes (`too_many_bytes` of `Page/PixelCalls` fails
--   too)
abbrev pub largest_planes : Type 0
largest_planes = image_buffer_layout (record largest_page { samples = 2; planar = Planar })
    ≡ Err LimitsExceeded

-- mistake: `rounded_size` allows up to 2^64
abbrev pub largest_chunk : Type 0
largest_chunk = image_chunk_buffer_layout largest_page 0 ≡ Err LimitsExceeded

-- mistake: `image_chunk_buffer_layout` tests all planes
-- a chunk's buffer contains one of two planes with the largest dimensions: the error is that of the
-- number type
abbrev pub largest_void : Type 0
largest_void =
    image_chunk_buffer_layout
    (record largest_page { samples = 2; planar = Planar; format = format.Void }) 0
    ≡ Err (UnsupportedError (UnsupportedSampleFormat (format.Void ∷ [])))

-- tiles with half bytes: the image has no buffer layout, and a tile has one
abbrev pub half_bytes : PageRecord
half_bytes =
    record gray_page { width = 20; height = 20; depth = 4; chunk_width = 15; chunk_height = 15 }

abbrev pub half_image : Type 0
half_image = image_buffer_layout half_bytes ≡ Err (UnsupportedError MisalignedTileBoundaries)

-- mistake: `whole_chunks` refuses a single chunk of half bytes
abbrev pub half_tile : Type 0
half_tile = image_chunk_buffer_layout half_bytes 0 ≡ Ok (of_bytes 120 8 1 120)

-- mistake: `rounded_size` doesn't round
-- a sample of three bytes is returned in four
abbrev pub rounded_up : Type 0
rounded_up =
    image_chunk_buffer_layout (record gray_page { width = 1; height = 1; depth = 17 }) 0
    ≡ Ok (record {
      len = 4;
      sample_format = format.Uint;
      sample_type = Some type.U32;
      row_stride = Some 3;
      planes = 1;
      plane_stride = Some 3;
      complete_len = 4;
    })

-- a chunk of a planar page is in one plane; the coding unit with its index is in both
abbrev pub planar_chunk : Type 0
planar_chunk = image_chunk_buffer_layout planar_tiles 3 ≡ Ok (of_bytes 16 4 1 16)

-- mistake: `image_coding_unit_layout` has one plane of a planar page
abbrev pub planar_unit : Type 0
planar_unit = image_coding_unit_layout planar_tiles 3 ≡ Ok (of_bytes 16 4 2 32)

-- mistake: `chunks_of_plane` counts the chunks of all planes (`chunk_7` of `Page/Layout` fails too)
-- mistake: `unit_fault` is off by one (`unit_past` of `Page/PixelCalls` fails too)
-- there are four coding units, from 0 to 3
abbrev pub unit_4 : Type 0
unit_4 = image_coding_unit_layout planar_tiles 4 ≡ Err (UsageError (InvalidCodingUnit 4 4))

-- mistake: `unit_from` tests the unit before the layout (`unit_too_long` fails too)
-- layout errors and too many bytes are checked before the index of a coding unit
abbrev pub unit_of_no_color : Type 0
unit_of_no_color =
    image_coding_unit_layout (record planar_tiles { interpretation = meaning.RGBPalette }) 4
    ≡ Err (UnsupportedError (InterpretationWithBits meaning.RGBPalette (8 ∷ 8 ∷ [])))

abbrev pub unit_too_long : Type 0
unit_too_long =
    image_coding_unit_layout (record largest_page { samples = 2; planar = Planar }) 1
    ≡ Err LimitsExceeded

-- mistake: `unit_from` tests the unit in a chunky page
-- with chunky samples a coding unit is a chunk, and its index isn't checked
abbrev pub chunky_unit : Type 0
chunky_unit = image_coding_unit_layout gray_page 9 ≡ Ok (of_bytes 12 4 1 12)

-- without a number type, a planar page has a layout for a coding unit, and a chunky page has none
abbrev pub void_unit : Type 0
void_unit =
    image_coding_unit_layout (record planar_tiles { format = format.Void }) 3
    ≡ Ok (record (of_bytes 16 4 2 32) { sample_format = format.Void; sample_type = None })

abbrev pub void_chunky_unit : Type 0
void_chunky_unit =
    image_coding_unit_layout void_page 0
    ≡ Err (UnsupportedError (UnsupportedSampleFormat (format.Void ∷ [])))

-- mistake: `resized_samples` has one plane
-- zeros for three bytes as 2-byte numbers; all planes count
abbrev pub two_zeros : Type 0
two_zeros =
    resized_samples (record (of_bytes 1 1 3 3) { sample_type = Some type.U16 }) (limits 4 0)
    ≡ Ok (record { sample_type = type.U16; numbers = 0 ∷ 0 ∷ [] })

-- a limit of three bytes allows one 2-byte number
abbrev pub too_many_zeros : Type 0
too_many_zeros =
    resized_samples (record (of_bytes 1 1 3 3) { sample_type = Some type.U16 }) (limits 3 0)
    ≡ Err LimitsExceeded

-- mistake: `resized_samples` tests the limit before the number type
-- a missing number type is refused before the limit is checked
abbrev pub zeros_of_none : Type 0
zeros_of_none =
    resized_samples (record (of_bytes 1 1 3 3) { sample_type = None }) (limits 0 0)
    ≡ Err (UnsupportedError UnknownInterpretation)
