-- Worked examples of calls of decoders that return the facts and the pixels of a page.
use Rattle.std.specs.Prelude.{◌≡◌, [], ◌∷◌, Some, Ok, Err, take}
use Rattle.tiff_base.specs.declared.color.ChunkType.TheVariants.{Strip, Tile}
use Rattle.tiff_base.specs.declared.color.ColorType.TheVariants.{Gray}
use Rattle.tiff_base.specs.declared.error.TiffError.TheVariants.{FormatError, UnsupportedError, UsageError, IoError, LimitsExceeded}
use Rattle.tiff_base.specs.declared.error.TiffFormatError.TheVariants.{InconsistentSizesEncountered}
use Rattle.tiff_base.specs.declared.error.TiffUnsupportedError.TheVariants.{InterpretationWithBits, UnsupportedSampleFormat}
use Rattle.tiff_base.specs.declared.error.UsageError.TheVariants.{InvalidChunkType, InvalidCodingUnit, InsufficientOutputBufferSize, InsufficientOutputRowStride}
use Rattle.tiff_base.specs.declared.io.IoKind.TheVariants.{UnexpectedEof}
use Rattle.tiff_base.specs.declared.tags.PhotometricInterpretation.TheVariants as meaning
use Rattle.tiff_base.specs.declared.tags.PlanarConfiguration.TheVariants.{Planar}
use Rattle.tiff_base.specs.declared.tags.SampleFormat.TheVariants.{Uint, Void}
use Rattle.tiff_page.specs.declared.layout.DecodingSampleType.TheVariants as type
use Rattle.tiff_page.specs.Page.{PageRecord}
use Rattle.tiff_decode.specs.Machine.{Decoding, stays}
use Rattle.tiff_decode.specs.Outcome as outcome
use Rattle.test_definitions.specs.Files.{gray_file}
use Rattle.test_definitions.specs.Page.Pixels.{pixel_page, limits}
use Rattle.test_definitions.specs.Decoders.{gray_state, gray_decoder}

-- a decoder of `gray_file` with another page
abbrev pub with_page : PageRecord → Decoding
with_page page = record gray_decoder { state = record gray_state { page = page } }

-- the dimensions of the page, which has a strip
abbrev pub sides : Type 0
sides = outcome.dimensions gray_decoder ≡ stays gray_decoder (Ok (1, 1))

-- mistake: `dimensions` exchanges the sides
abbrev pub sides_wide : Type 0
sides_wide =
    outcome.dimensions
    (record gray_decoder
    { state = record gray_state { page = record pixel_page { width = 3; height = 2 } } })
    ≡ stays (record gray_decoder
    { state = record gray_state { page = record pixel_page { width = 3; height = 2 } } })
    (Ok (3, 2))

abbrev pub color : Type 0
color = outcome.colortype gray_decoder ≡ stays gray_decoder (Ok (Gray 8))

abbrev pub no_color : Type 0
no_color = outcome.colortype (with_page (record pixel_page { interpretation = meaning.RGBPalette }))
    ≡ stays (with_page (record pixel_page { interpretation = meaning.RGBPalette }))
    (Err (UnsupportedError (InterpretationWithBits meaning.RGBPalette (8 ∷ []))))

abbrev pub strips : Type 0
strips = outcome.strip_count gray_decoder ≡ stays gray_decoder (Ok 1)

abbrev pub strips_of_tiles : Type 0
strips_of_tiles = outcome.strip_count (with_page (record pixel_page { chunk_type = Tile }))
    ≡ stays (with_page (record pixel_page { chunk_type = Tile }))
    (Err (UsageError (InvalidChunkType Strip Tile)))

abbrev pub tiles_of_strips : Type 0
tiles_of_strips =
    outcome.tile_count gray_decoder
    ≡ stays gray_decoder (Err (UsageError (InvalidChunkType Tile Strip)))

abbrev pub tiles : Type 0
tiles = outcome.tile_count (with_page (record pixel_page { chunk_type = Tile }))
    ≡ stays (with_page (record pixel_page { chunk_type = Tile })) (Ok 1)

-- the buffer layouts of the page
abbrev pub image_laid : Type 0
image_laid =
    outcome.image_buffer_layout gray_decoder
    ≡ stays gray_decoder
    (Ok (record {
      len = 1;
      row_stride = Some 1;
      planes = 1;
      plane_stride = Some 1;
      complete_len = 1;
      sample_format = Uint;
      sample_type = Some type.U8;
    }))

abbrev pub image_unlaid : Type 0
image_unlaid =
    outcome.image_buffer_layout
    (with_page (record pixel_page { interpretation = meaning.RGBPalette }))
    ≡ stays (with_page (record pixel_page { interpretation = meaning.RGBPalette }))
    (Err (UnsupportedError (InterpretationWithBits meaning.RGBPalette (8 ∷ []))))

abbrev pub chunk_laid : Type 0
chunk_laid =
    outcome.image_chunk_buffer_layout gray_decoder 0
    ≡ stays gray_decoder
    (Ok (record {
      len = 1;
      row_stride = Some 1;
      planes = 1;
      plane_stride = Some 1;
      complete_len = 1;
      sample_format = Uint;
      sample_type = Some type.U8;
    }))

abbrev pub chunk_unlaid : Type 0
chunk_unlaid = outcome.image_chunk_buffer_layout (with_page (record pixel_page { format = Void })) 0
    ≡ stays (with_page (record pixel_page { format = Void }))
    (Err (UnsupportedError (UnsupportedSampleFormat (Void ∷ []))))

abbrev pub unit_laid : Type 0
unit_laid =
    outcome.image_coding_unit_layout gray_decoder 0
    ≡ stays gray_decoder
    (Ok (record {
      len = 1;
      row_stride = Some 1;
      planes = 1;
      plane_stride = Some 1;
      complete_len = 1;
      sample_format = Uint;
      sample_type = Some type.U8;
    }))

-- mistake: `image_coding_unit_layout` lays out a coding unit as any chunk
abbrev pub unit_past : Type 0
unit_past = outcome.image_coding_unit_layout (with_page (record pixel_page { planar = Planar })) 4
    ≡ stays (with_page (record pixel_page { planar = Planar }))
    (Err (UsageError (InvalidCodingUnit 4 1)))

-- the pixels of the page, and of a file that is cut off before them
abbrev pub image_read : Type 0
image_read =
    outcome.read_image gray_decoder
    ≡ stays gray_decoder (Ok (record { sample_type = type.U8; numbers = 7 ∷ [] }))

abbrev pub image_cut : Type 0
image_cut =
    outcome.read_image (record gray_decoder { bytes = take 24 gray_file })
    ≡ stays (record gray_decoder { bytes = take 24 gray_file }) (Err (IoError UnexpectedEof))

-- mistake: `read_image` reads under other limits
-- the decoder's own limits apply
abbrev pub image_limited : Type 0
image_limited =
    outcome.read_image (record gray_decoder { state = record gray_state { limits = limits 0 1 } })
    ≡ stays (record gray_decoder { state = record gray_state { limits = limits 0 1 } })
    (Err LimitsExceeded)

abbrev pub buffer_read : Type 0
buffer_read =
    outcome.read_image_to_buffer gray_decoder
    ≡ stays gray_decoder
    (Ok (
      record {
        len = 1;
        row_stride = Some 1;
        planes = 1;
        plane_stride = Some 1;
        complete_len = 1;
        sample_format = Uint;
        sample_type = Some type.U8;
      },
      record { sample_type = type.U8; numbers = 7 ∷ [] },
    ))

abbrev pub buffer_cut : Type 0
buffer_cut = outcome.read_image_to_buffer (record gray_decoder { bytes = take 24 gray_file })
    ≡ stays (record gray_decoder { bytes = take 24 gray_file }) (Err (IoError UnexpectedEof))

abbrev pub slice_read : Type 0
slice_read =
    outcome.read_image_bytes gray_decoder (0xaa ∷ 0xaa ∷ [])
    ≡ stays gray_decoder (Ok (0x07 ∷ 0xaa ∷ []))

abbrev pub slice_short : Type 0
slice_short =
    outcome.read_image_bytes gray_decoder []
    ≡ stays gray_decoder (Err (UsageError (InsufficientOutputBufferSize 1 0)))

abbrev pub chunk_read : Type 0
chunk_read =
    outcome.read_chunk gray_decoder 0
    ≡ stays gray_decoder (Ok (record { sample_type = type.U8; numbers = 7 ∷ [] }))

-- mistake: `read_chunk` reads the first chunk for each
abbrev pub chunk_past : Type 0
chunk_past =
    outcome.read_chunk gray_decoder 1
    ≡ stays gray_decoder (Err (FormatError InconsistentSizesEncountered))

abbrev pub chunk_slice : Type 0
chunk_slice =
    outcome.read_chunk_bytes gray_decoder 0 (0xaa ∷ 0xaa ∷ [])
    ≡ stays gray_decoder (Ok (0x07 ∷ 0xaa ∷ []))

abbrev pub chunk_slice_short : Type 0
chunk_slice_short =
    outcome.read_chunk_bytes gray_decoder 0 []
    ≡ stays gray_decoder (Err (UsageError (InsufficientOutputBufferSize 1 0)))

-- mistake: `read_chunk_to_buffer` takes no stride
abbrev pub chunk_apart : Type 0
chunk_apart =
    outcome.read_chunk_to_buffer gray_decoder 0 2
    ≡ stays gray_decoder (Ok (record { sample_type = type.U8; numbers = 7 ∷ 0 ∷ [] }))

abbrev pub chunk_stride : Type 0
chunk_stride =
    outcome.read_chunk_to_buffer gray_decoder 0 0
    ≡ stays gray_decoder (Err (UsageError (InsufficientOutputRowStride 1 0)))

abbrev pub unit_read : Type 0
unit_read =
    outcome.read_coding_unit_bytes gray_decoder 0 (0xaa ∷ 0xaa ∷ [])
    ≡ stays gray_decoder (Ok (0x07 ∷ 0xaa ∷ []))

-- mistake: `read_coding_unit_bytes` reads a coding unit as any chunk
abbrev pub unit_absent : Type 0
unit_absent =
    outcome.read_coding_unit_bytes gray_decoder 1 (0xaa ∷ [])
    ≡ stays gray_decoder (Err (UsageError (InvalidCodingUnit 1 1)))
