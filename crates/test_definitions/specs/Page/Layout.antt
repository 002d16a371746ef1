-- Worked examples of pages: checks, chunks, color and layout.
use Rattle.std.specs.Prelude.{◌≡◌, ℕ, List, [], ◌∷◌, ◌++◌, Ok, Err, replicate}
use Rattle.tiff_base.specs.declared.color.ChunkType.TheVariants.{Strip, Tile}
use Rattle.tiff_base.specs.declared.color.ColorType.TheVariants as color
use Rattle.tiff_base.specs.declared.error.TiffError.TheVariants.{FormatError, UnsupportedError, LimitsExceeded}
use Rattle.tiff_base.specs.declared.error.TiffFormatError.TheVariants.{InvalidDimensions, RequiredTagNotFound, SamplesPerPixelIsZero, InconsistentSizesEncountered, InvalidTagValueType, UnknownPredictor, UnknownPlanarConfiguration, InvalidCountForTag, StripTileTagConflict}
use Rattle.tiff_base.specs.declared.error.TiffUnsupportedError.TheVariants.{UnknownInterpretation, UnsupportedSampleFormat, UnsupportedSampleDepth, InconsistentBitsPerSample, InterpretationWithBits, MisalignedTileBoundaries, ChromaSubsampling}
use Rattle.tiff_base.specs.declared.tags.CompressionMethod.TheVariants as method
use Rattle.tiff_base.specs.declared.tags.ExtraSamples.TheVariants as extra
use Rattle.tiff_base.specs.declared.tags.PhotometricInterpretation.TheVariants as meaning
use Rattle.tiff_base.specs.declared.tags.PlanarConfiguration.TheVariants.{Chunky, Planar}
use Rattle.tiff_base.specs.declared.tags.Predictor.TheVariants as predictor
use Rattle.tiff_base.specs.declared.tags.SampleFormat.TheVariants as format
use Rattle.tiff_base.specs.declared.tags.Tag.TheVariants as tag
use Rattle.tiff_ifd.specs.PlainValue.{PlainValue, plain_value_list_of, none, more, list, short, unsigned}
use Rattle.tiff_page.specs.declared.layout.DecodingSampleType.TheVariants as type
use Rattle.tiff_page.specs.Page.{PageRecord}
use Rattle.tiff_page.specs.Checks.{page_of}
use Rattle.tiff_page.specs.Rect.{rect}
use Rattle.tiff_page.specs.Layout.{color_of, sample_type_of, layout_of}
use Rattle.test_definitions.specs.Ifd.TagLookup.{told}

-- the tags of a gray page of 4 by 3 pixels of 8 bits in one strip at 8: dimensions, depth,
-- interpretation; and the strip
abbrev pub gray_tags : List (ℕ × PlainValue)
gray_tags = (256, short 4) ∷ (257, short 3) ∷ (258, short 8) ∷ (262, short 1) ∷ []

abbrev pub strip_tags : List (ℕ × PlainValue)
strip_tags = (273, unsigned 8) ∷ (279, unsigned 12) ∷ []

-- the page that `gray_tags` and the tags of its strip describe
abbrev pub gray_page : PageRecord
gray_page = record {
  width = 4;
  height = 3;
  interpretation = meaning.BlackIsZero;
  method = method.None;
  samples = 1;
  extra = [];
  format = format.Uint;
  depth = 8;
  predictor = predictor.None;
  planar = Chunky;
  subsampling = (2, 2);
  chunk_type = Strip;
  chunk_width = 4;
  chunk_height = 3;
  offsets = 8 ∷ [];
  byte_counts = 12 ∷ [];
}

-- mistake: `method_in` has another default
-- mistake: `format_in` has another default
-- mistake: `planar_in` has no default
-- mistake: `subsampling_in` has another default
-- mistake: `strips_in` has one row by default
abbrev pub gray_opens : Type 0
gray_opens = page_of (told (gray_tags ++ strip_tags)) ≡ Ok gray_page

-- mistake: `depth_in` has another default
-- without a depth tag a sample has one bit
abbrev pub no_depth : Type 0
no_depth =
    page_of (told ((256, short 4) ∷ (257, short 3) ∷ (262, short 1) ∷ strip_tags))
    ≡ Ok (record gray_page {
      depth = 1;
    })

-- a compression method that this project doesn't decode isn't an error of the page
abbrev pub lzw_opens : Type 0
lzw_opens =
    page_of (told ((259, short 5) ∷ gray_tags ++ strip_tags))
    ≡ Ok (record gray_page { method = method.LZW })

-- mistake: `parts` rounds down (`chunk_3` fails too)
-- two strips, of two rows and of one row
abbrev pub two_strips : Type 0
two_strips =
    page_of (told ((278, short 2) ∷ (273, list (more (unsigned 8) (more (unsigned 16) none)))
    ∷ (279, list (more (unsigned 8) (more (unsigned 4) none))) ∷ gray_tags))
    ≡ Ok (record gray_page { chunk_height = 2; offsets = 8 ∷ 16 ∷ []; byte_counts = 8 ∷ 4 ∷ [] })

-- two planes of 20 by 20 samples, in four tiles of 16 by 16 each
abbrev pub planar_tiles : PageRecord
planar_tiles = record {
  width = 20;
  height = 20;
  interpretation = meaning.BlackIsZero;
  method = method.None;
  samples = 2;
  extra = [];
  format = format.Uint;
  depth = 8;
  predictor = predictor.None;
  planar = Planar;
  subsampling = (2, 2);
  chunk_type = Tile;
  chunk_width = 16;
  chunk_height = 16;
  offsets = replicate 8 100;
  byte_counts = replicate 8 256;
}

abbrev pub eight : PlainValue
eight = list (plain_value_list_of (replicate 8 (unsigned 100)))

abbrev pub eight_counts : PlainValue
eight_counts = list (plain_value_list_of (replicate 8 (unsigned 256)))

abbrev pub tile_tags : List (ℕ × PlainValue)
tile_tags = (277, short 2) ∷ (284, short 2) ∷ (322, short 16) ∷ (323, short 16) ∷ (324, eight)
    ∷ (325, eight_counts) ∷ []

-- mistake: `planes_of` counts one plane in a planar page
-- mistake: `chunks_in` reads tiles as strips (`large_tile` of `Page/Checks` fails too)
-- mistake: `page_of` forgets the planes (`two_planes` of `Page/Checks` fails too)
abbrev pub tiles_open : Type 0
tiles_open =
    page_of (told ((256, short 20) ∷ (257, short 20) ∷ (258, short 8) ∷ (262, short 1) ∷ tile_tags))
    ≡ Ok planar_tiles

-- a chunky page of 20 by 20 samples has half as many tiles as two planes
abbrev pub too_many_tiles : Type 0
too_many_tiles =
    page_of (told
    ((284, short 1) ∷ (256, short 20) ∷ (257, short 20) ∷ (258, short 8) ∷ (262, short 1)
    ∷ tile_tags))
    ≡ Err (FormatError InconsistentSizesEncountered)

-- a missing ImageLength
abbrev pub no_length : Type 0
no_length =
    page_of (told ((256, short 4) ∷ [])) ≡ Err (FormatError (RequiredTagNotFound tag.ImageLength))

-- a width of 0 is refused before a method, and before a missing interpretation
abbrev pub width_0 : Type 0
width_0 =
    page_of (told ((256, short 0) ∷ (257, short 3) ∷ (259, short 5) ∷ []))
    ≡ Err (FormatError (InvalidDimensions 0 3))

-- the interpretation 7, and a missing one
abbrev pub interpretation_7 : Type 0
interpretation_7 =
    page_of (told ((262, short 7) ∷ gray_tags ++ strip_tags))
    ≡ Err (UnsupportedError UnknownInterpretation)

-- mistake: `interpretation_in` takes black as 0 if the interpretation is missing
abbrev pub no_interpretation : Type 0
no_interpretation =
    page_of (told ((256, short 4) ∷ (257, short 3) ∷ strip_tags))
    ≡ Err (UnsupportedError UnknownInterpretation)

-- mistake: `some_samples` allows 0 samples
-- 0 samples per pixel
abbrev pub samples_0 : Type 0
samples_0 =
    page_of (told ((277, short 0) ∷ gray_tags ++ strip_tags))
    ≡ Err (FormatError SamplesPerPixelIsZero)

-- more extra samples than samples per pixel
abbrev pub too_many_extra : Type 0
too_many_extra =
    page_of (told ((338, list (more (short 0) (more (short 1) none))) ∷ gray_tags ++ strip_tags))
    ≡ Err (FormatError InconsistentSizesEncountered)

-- mistake: `within_samples` refuses as many extra samples as samples
-- mistake: `extra_in` counts an unknown extra sample as alpha
-- an extra sample with the unknown meaning 9 is unspecified
abbrev pub extra_9 : Type 0
extra_9 =
    page_of (told ((338, short 9) ∷ gray_tags ++ strip_tags)) ≡ Ok (record gray_page {
      extra = extra.Unspecified ∷ [];
    })

-- mistake: `one_format` takes the first of several formats
-- two different sample formats
abbrev pub two_formats : Type 0
two_formats =
    page_of (told ((339, list (more (short 1) (more (short 3) none))) ∷ gray_tags ++ strip_tags))
    ≡ Err (UnsupportedError (UnsupportedSampleFormat (format.Uint ∷ format.IEEEFP ∷ [])))

-- mistake: `one_format` allows an empty list
-- an empty list of sample formats, and a format above two bytes
abbrev pub no_format : Type 0
no_format =
    page_of (told ((339, list none) ∷ gray_tags ++ strip_tags))
    ≡ Err (FormatError (InvalidTagValueType tag.SampleFormat))

abbrev pub wide_format : Type 0
wide_format =
    page_of (told ((339, unsigned 65537) ∷ gray_tags ++ strip_tags))
    ≡ Err (FormatError (InvalidTagValueType tag.SampleFormat))

-- mistake: `same_depth` allows a depth of 0
-- a depth of 0, a depth above one byte, and two depths for one sample
abbrev pub depth_0 : Type 0
depth_0 =
    page_of (told ((258, short 0) ∷ gray_tags ++ strip_tags))
    ≡ Err (UnsupportedError (InconsistentBitsPerSample (0 ∷ [])))

abbrev pub depth_256 : Type 0
depth_256 =
    page_of (told ((258, short 256) ∷ gray_tags ++ strip_tags))
    ≡ Err (FormatError (InvalidTagValueType tag.BitsPerSample))

abbrev pub two_depths : Type 0
two_depths =
    page_of (told ((258, list (more (short 8) (more (short 8) none))) ∷ gray_tags ++ strip_tags))
    ≡ Err (FormatError InconsistentSizesEncountered)

-- one sample of 8 bits and one of 16
abbrev pub mixed_depths : Type 0
mixed_depths =
    page_of (told
    ((277, short 2) ∷ (258, list (more (short 8) (more (short 16) none))) ∷ gray_tags
    ++ strip_tags))
    ≡ Err (UnsupportedError (InconsistentBitsPerSample (8 ∷ 16 ∷ [])))

-- mistake: `predictor_from` returns another error
-- mistake: `page_of` exchanges two checks
-- the predictor 4 is refused before the planar configuration 3
abbrev pub predictor_4 : Type 0
predictor_4 =
    page_of (told ((317, short 4) ∷ (284, short 3) ∷ gray_tags ++ strip_tags))
    ≡ Err (FormatError (UnknownPredictor 4))

abbrev pub planar_3 : Type 0
planar_3 =
    page_of (told ((284, short 3) ∷ gray_tags ++ strip_tags))
    ≡ Err (FormatError (UnknownPlanarConfiguration 3))

-- one number of chroma subsampling instead of two
abbrev pub one_subsampling : Type 0
one_subsampling =
    page_of (told ((530, short 2) ∷ gray_tags ++ strip_tags))
    ≡ Err (FormatError (InvalidCountForTag tag.ChromaSubsampling 1))

-- strips and tiles, neither, and only half of the tags of strips
abbrev pub strips_and_tiles : Type 0
strips_and_tiles =
    page_of (told ((324, unsigned 8) ∷ gray_tags ++ strip_tags))
    ≡ Err (FormatError StripTileTagConflict)

abbrev pub no_chunks : Type 0
no_chunks = page_of (told gray_tags) ≡ Err (FormatError StripTileTagConflict)

abbrev pub half_strips : Type 0
half_strips =
    page_of (told ((273, unsigned 8) ∷ gray_tags)) ≡ Err (FormatError StripTileTagConflict)

-- mistake: `some_rows` allows 0 rows
-- 0 rows per strip
abbrev pub rows_0 : Type 0
rows_0 =
    page_of (told ((278, short 0) ∷ gray_tags ++ strip_tags))
    ≡ Err (FormatError InconsistentSizesEncountered)

-- a second strip is missing
abbrev pub missing_strip : Type 0
missing_strip =
    page_of (told ((278, short 2) ∷ gray_tags ++ strip_tags))
    ≡ Err (FormatError InconsistentSizesEncountered)

-- tiles with width 0
abbrev pub tile_width_0 : Type 0
tile_width_0 =
    page_of (told
    ((322, short 0) ∷ (323, short 0) ∷ (324, unsigned 8) ∷ (325, unsigned 8) ∷ gray_tags))
    ≡ Err (FormatError (InvalidTagValueType tag.TileWidth))

-- the width and height of a chunk
abbrev pub sides : PageRecord → ℕ → ℕ × ℕ
sides p i = ((rect p i).width, (rect p i).height)

-- chunks at the right edge, at the lower edge, and in the corner are cut
abbrev pub chunk_0 : Type 0
chunk_0 = sides planar_tiles 0 ≡ (16, 16)

-- mistake: `across` rounds down (`chunk_7` fails too)
abbrev pub chunk_1 : Type 0
chunk_1 = sides planar_tiles 1 ≡ (4, 16)

-- mistake: `rect_at` doesn't clip the last row
abbrev pub chunk_2 : Type 0
chunk_2 = sides planar_tiles 2 ≡ (16, 4)

abbrev pub chunk_3 : Type 0
chunk_3 = sides planar_tiles 3 ≡ (4, 4)

-- mistake: `rect` doesn't reduce the index to its plane
-- chunk 7 is the corner of the second plane
abbrev pub chunk_7 : Type 0
chunk_7 = rect planar_tiles 7 ≡ record { plane = 1; x = 16; y = 16; width = 4; height = 4 }

-- color types: RGB, with alpha as fourth sample, with another fourth sample, and with four samples
-- but no extra ones
abbrev pub rgb_page : PageRecord
rgb_page = record gray_page { interpretation = meaning.RGB; samples = 3 }

abbrev pub rgb_color : Type 0
rgb_color = color_of rgb_page ≡ Ok (color.RGB 8)

abbrev pub rgb_alpha : Type 0
rgb_alpha = color_of (record rgb_page { samples = 4; extra = extra.UnassociatedAlpha ∷ [] })
    ≡ Ok (color.RGBA 8)

-- mistake: `first_is_alpha` takes another meaning (`rgb_alpha` fails too)
-- mistake: `photometric` counts the extra samples
abbrev pub rgb_other : Type 0
rgb_other = color_of (record rgb_page { samples = 4; extra = extra.Unspecified ∷ [] })
    ≡ Ok (color.RGB 8)

-- mistake: `rgb` refuses four samples
abbrev pub rgb_four : Type 0
rgb_four = color_of (record rgb_page { samples = 4 }) ≡ Ok (color.RGBA 8)

-- mistake: `no_color` lists one depth
-- RGB with two samples has no color type, nor has a palette
abbrev pub rgb_two : Type 0
rgb_two =
    color_of (record rgb_page { samples = 2 })
    ≡ Err (UnsupportedError (InterpretationWithBits meaning.RGB (8 ∷ 8 ∷ [])))

abbrev pub palette_color : Type 0
palette_color =
    color_of (record gray_page { interpretation = meaning.RGBPalette })
    ≡ Err (UnsupportedError (InterpretationWithBits meaning.RGBPalette (8 ∷ [])))

-- gray has one sample in all
abbrev pub gray_color : Type 0
gray_color = color_of gray_page ≡ Ok (color.Gray 8)

-- mistake: `gray` doesn't count the extra samples
abbrev pub gray_extra : Type 0
gray_extra =
    color_of (record gray_page { samples = 2; extra = extra.UnassociatedAlpha ∷ [] })
    ≡ Ok (color.Multiband 8 2)

-- mistake: `cmyk` allows three samples (`cmyk_three` of `Page/Checks` fails too)
-- CMYK with five samples, and Lab with signed numbers
abbrev pub cmyk_five : Type 0
cmyk_five = color_of (record rgb_page { interpretation = meaning.CMYK; samples = 5 })
    ≡ Ok (color.CMYKA 8)

-- mistake: `lab` allows signed Lab
abbrev pub lab_signed : Type 0
lab_signed =
    color_of (record rgb_page { interpretation = meaning.IccLab; format = format.Int })
    ≡ Err (UnsupportedError (InterpretationWithBits meaning.IccLab (8 ∷ 8 ∷ 8 ∷ [])))

-- number types: 12 bits take two bytes, 65 bits have none; floating point has 16 bits, but not 24
abbrev pub bits_12 : Type 0
bits_12 = sample_type_of (record gray_page { depth = 12 }) ≡ Ok type.U16

abbrev pub bits_65 : Type 0
bits_65 =
    sample_type_of (record gray_page { depth = 65 })
    ≡ Err (UnsupportedError (UnsupportedSampleDepth 65))

abbrev pub float_16 : Type 0
float_16 = sample_type_of (record gray_page { depth = 16; format = format.IEEEFP }) ≡ Ok type.F16

abbrev pub float_24 : Type 0
float_24 =
    sample_type_of (record gray_page { depth = 24; format = format.IEEEFP })
    ≡ Err (UnsupportedError (UnsupportedSampleDepth 24))

abbrev pub void_8 : Type 0
void_8 =
    sample_type_of (record gray_page { format = format.Void })
    ≡ Err (UnsupportedError (UnsupportedSampleFormat (format.Void ∷ [])))

-- the layout of `gray_page`, of a row of 3 samples of 4 bits in two bytes, and of one plane of
-- RGB
abbrev pub gray_layout : Type 0
gray_layout =
    layout_of gray_page 4 3 ≡ Ok (record { color = color.Gray 8; row_bytes = 4; plane_stride = 12 })

-- mistake: `row_bits` counts every sample as a byte
-- mistake: `row_bytes` rounds down
abbrev pub layout_4_bits : Type 0
layout_4_bits =
    layout_of (record gray_page { depth = 4 }) 3 2 ≡ Ok (record {
      color = color.Gray 4;
      row_bytes = 2;
      plane_stride = 4;
    })

abbrev pub chunky_layout : Type 0
chunky_layout =
    layout_of rgb_page 4 3 ≡ Ok (record { color = color.RGB 8; row_bytes = 12; plane_stride = 36 })

-- mistake: `samples_in_chunk` counts all samples in a planar row
abbrev pub planar_layout : Type 0
planar_layout =
    layout_of (record rgb_page { planar = Planar }) 4 3
    ≡ Ok (record { color = color.RGB 8; row_bytes = 4; plane_stride = 12 })

-- errors: no color type, rows with too many bytes, tiles with half bytes, and subsampled chroma
abbrev pub layout_no_color : Type 0
layout_no_color =
    layout_of (record rgb_page { samples = 2 }) 4 3
    ≡ Err (UnsupportedError (InterpretationWithBits meaning.RGB (8 ∷ 8 ∷ [])))

-- mistake: `wide` has no limit
-- mistake: `layout_of` doesn't test the stored height
abbrev pub layout_too_long : Type 0
layout_too_long =
    layout_of (record gray_page { depth = 255; chunk_height = 4294967295 }) 4294967295 1
    ≡ Err LimitsExceeded

abbrev pub layout_half_bytes : Type 0
layout_half_bytes =
    layout_of (record gray_page { depth = 4; chunk_width = 3 }) 4 3
    ≡ Err (UnsupportedError MisalignedTileBoundaries)

abbrev pub layout_chroma : Type 0
layout_chroma =
    layout_of (record rgb_page { interpretation = meaning.YCbCr }) 4 3
    ≡ Err (UnsupportedError ChromaSubsampling)

abbrev pub layout_whole_chroma : Type 0
layout_whole_chroma =
    layout_of (record rgb_page { interpretation = meaning.YCbCr; subsampling = (1, 1) }) 4 3
    ≡ Ok (record { color = color.YCbCr 8; row_bytes = 12; plane_stride = 36 })
