-- Worked examples of checks of a page: the first of two errors, and values that just pass.
use Rattle.std.specs.Prelude.{◌≡◌, [], ◌∷◌, ◌++◌, ◌^◌, Ok, Err}
use Rattle.tiff_base.specs.declared.color.ChunkType.TheVariants.{Tile}
use Rattle.tiff_base.specs.declared.color.ColorType.TheVariants as color
use Rattle.tiff_base.specs.declared.error.TiffError.TheVariants.{FormatError, UnsupportedError, LimitsExceeded}
use Rattle.tiff_base.specs.declared.error.TiffFormatError.TheVariants.{InvalidDimensions, RequiredTagNotFound, SamplesPerPixelIsZero, InconsistentSizesEncountered, InvalidTagValueType, InvalidTypeForTag, UnknownPlanarConfiguration, InvalidCountForTag, StripTileTagConflict}
use Rattle.tiff_base.specs.declared.error.TiffUnsupportedError.TheVariants.{UnsupportedSampleDepth, InconsistentBitsPerSample, InterpretationWithBits, MisalignedTileBoundaries, ChromaSubsampling}
use Rattle.tiff_base.specs.declared.tags.CompressionMethod.TheVariants as method
use Rattle.tiff_base.specs.declared.tags.ExtraSamples.TheVariants as extra
use Rattle.tiff_base.specs.declared.tags.PhotometricInterpretation.TheVariants as meaning
use Rattle.tiff_base.specs.declared.tags.PlanarConfiguration.TheVariants.{Planar}
use Rattle.tiff_base.specs.declared.tags.Predictor.TheVariants as predictor
use Rattle.tiff_base.specs.declared.tags.SampleFormat.TheVariants as format
use Rattle.tiff_base.specs.declared.tags.Tag.TheVariants as tag
use Rattle.tiff_ifd.specs.PlainValue.{PlainValue, none, more, list, short, unsigned}
use Rattle.tiff_page.specs.declared.layout.DecodingSampleType.TheVariants as type
use Rattle.tiff_page.specs.Page.{PageRecord}
use Rattle.tiff_page.specs.Checks.{page_of}
use Rattle.tiff_page.specs.Layout.{color_of, sample_type_of, layout_of, size_of}
use Rattle.test_definitions.specs.Ifd.TagLookup.{told}
use Rattle.test_definitions.specs.Page.Layout.{gray_tags, strip_tags, gray_page, rgb_page}

abbrev pub one : PlainValue → PlainValue
one a = list (more a none)

abbrev pub two : PlainValue → PlainValue → PlainValue
two a b = list (more a (more b none))

-- mistake: `sides` allows a height of 0
-- a height of 0; the height is read before a width of 0 is refused
abbrev pub height_0 : Type 0
height_0 =
    page_of (told ((257, short 0) ∷ gray_tags ++ strip_tags))
    ≡ Err (FormatError (InvalidDimensions 4 0))

-- mistake: `size_in` tests the width before it reads the height
abbrev pub width_0_no_height : Type 0
width_0_no_height =
    page_of (told ((256, short 0) ∷ [])) ≡ Err (FormatError (RequiredTagNotFound tag.ImageLength))

-- a list of one number isn't a width
abbrev pub width_list : Type 0
width_list =
    page_of (told ((256, one (short 4)) ∷ gray_tags ++ strip_tags))
    ≡ Err (FormatError InvalidTypeForTag)

-- a compression method without a name
abbrev pub method_7777 : Type 0
method_7777 =
    page_of (told ((259, short 7777) ∷ gray_tags ++ strip_tags)) ≡ Ok (record gray_page {
      method = method.Unknown 7777;
    })

-- 0 samples per pixel are refused before too many extra samples
abbrev pub no_samples_first : Type 0
no_samples_first =
    page_of (told ((277, short 0) ∷ (338, two (short 0) (short 1)) ∷ gray_tags ++ strip_tags))
    ≡ Err (FormatError SamplesPerPixelIsZero)

-- two sample formats, of which one doesn't fit, and two equal ones
abbrev pub wide_format_first : Type 0
wide_format_first =
    page_of (told ((339, two (unsigned 1) (unsigned 65537)) ∷ gray_tags ++ strip_tags))
    ≡ Err (FormatError (InvalidTagValueType tag.SampleFormat))

abbrev pub same_format : Type 0
same_format =
    page_of (told ((339, two (short 3) (short 3)) ∷ gray_tags ++ strip_tags))
    ≡ Ok (record gray_page {
      format = format.IEEEFP;
    })

-- a sample format without a name isn't an error of the page
abbrev pub format_9 : Type 0
format_9 =
    page_of (told ((339, short 9) ∷ gray_tags ++ strip_tags))
    ≡ Ok (record gray_page { format = format.Unknown 9 })

-- mistake: `depth_in` tests for a mixture before the range
-- depths: one that doesn't fit before too many, too many before different ones, none, and zeros
abbrev pub wide_depth_first : Type 0
wide_depth_first =
    page_of (told ((258, two (short 8) (short 256)) ∷ gray_tags ++ strip_tags))
    ≡ Err (FormatError (InvalidTagValueType tag.BitsPerSample))

abbrev pub many_depths_first : Type 0
many_depths_first =
    page_of (told ((258, two (short 8) (short 16)) ∷ gray_tags ++ strip_tags))
    ≡ Err (FormatError InconsistentSizesEncountered)

abbrev pub depths_of_none : Type 0
depths_of_none =
    page_of (told ((258, list none) ∷ gray_tags ++ strip_tags))
    ≡ Err (FormatError InconsistentSizesEncountered)

abbrev pub depths_0 : Type 0
depths_0 =
    page_of (told ((277, short 2) ∷ (258, two (short 0) (short 0)) ∷ gray_tags ++ strip_tags))
    ≡ Err (UnsupportedError (InconsistentBitsPerSample (0 ∷ 0 ∷ [])))

-- mistake: `one_depth` refuses one depth for all
-- one depth for two samples, and the largest depth
abbrev pub depth_255 : Type 0
depth_255 =
    page_of (told ((277, short 2) ∷ (258, short 255) ∷ gray_tags ++ strip_tags))
    ≡ Ok (record gray_page {
      samples = 2;
      depth = 255;
    })

-- the depth is checked before the predictor
abbrev pub depth_first : Type 0
depth_first =
    page_of (told ((258, short 0) ∷ (317, short 4) ∷ gray_tags ++ strip_tags))
    ≡ Err (UnsupportedError (InconsistentBitsPerSample (0 ∷ [])))

abbrev pub predictor_2 : Type 0
predictor_2 =
    page_of (told ((317, short 2) ∷ gray_tags ++ strip_tags)) ≡ Ok (record gray_page {
      predictor = predictor.Horizontal;
    })

-- the planar configuration is checked before the chroma subsampling, and that before the kind of
-- chunks
abbrev pub planar_first : Type 0
planar_first =
    page_of (told ((284, short 3) ∷ (530, short 2) ∷ gray_tags))
    ≡ Err (FormatError (UnknownPlanarConfiguration 3))

abbrev pub subsampling_first : Type 0
subsampling_first =
    page_of (told ((530, short 2) ∷ gray_tags))
    ≡ Err (FormatError (InvalidCountForTag tag.ChromaSubsampling 1))

-- chroma subsampling without numbers, with one that doesn't fit, and with two
abbrev pub no_subsampling : Type 0
no_subsampling =
    page_of (told ((530, list none) ∷ gray_tags ++ strip_tags))
    ≡ Err (FormatError (InvalidCountForTag tag.ChromaSubsampling 0))

abbrev pub wide_subsampling : Type 0
wide_subsampling =
    page_of (told ((530, unsigned 65536) ∷ gray_tags ++ strip_tags))
    ≡ Err (FormatError (InvalidTagValueType tag.ChromaSubsampling))

-- mistake: `number_pair` exchanges the two
abbrev pub subsampling_1_2 : Type 0
subsampling_1_2 =
    page_of (told ((530, two (short 1) (short 2)) ∷ gray_tags ++ strip_tags))
    ≡ Ok (record gray_page {
      subsampling = (1, 2);
    })

-- mistake: `chunk_kind` allows a strip tag beside tiles
-- the tags of tiles together with a tag of strips
abbrev pub tiles_and_counts : Type 0
tiles_and_counts =
    page_of (told ((324, unsigned 8) ∷ (325, unsigned 8) ∷ (279, unsigned 8) ∷ gray_tags))
    ≡ Err (FormatError StripTileTagConflict)

-- mistake: `strips_in` compares the lists before it reads the rows
-- rows per strip that aren't a number are refused before lists of different lengths
abbrev pub rows_first : Type 0
rows_first =
    page_of (told
    ((278, list none) ∷ (279, two (unsigned 8) (unsigned 4)) ∷ gray_tags ++ strip_tags))
    ≡ Err (FormatError InvalidTypeForTag)

-- mistake: `chunks_counted` allows fewer byte counts
abbrev pub unequal_lists : Type 0
unequal_lists =
    page_of (told ((279, two (unsigned 8) (unsigned 4)) ∷ gray_tags ++ strip_tags))
    ≡ Err (FormatError InconsistentSizesEncountered)

-- mistake: `chunk_count` forgets the planes (`tiles_open` of `Page/Layout` fails too)
-- one strip for each plane
abbrev pub two_planes : Type 0
two_planes =
    page_of (told ((277, short 2) ∷ (284, short 2) ∷ (273, two (unsigned 8) (unsigned 20))
    ∷ (279, two (unsigned 12) (unsigned 12)) ∷ gray_tags))
    ≡ Ok (record gray_page {
      samples = 2;
      planar = Planar;
      offsets = 8 ∷ 20 ∷ [];
      byte_counts = 12 ∷ 12 ∷ [];
    })

-- mistake: `tiles_in` tests the width before it reads the length
-- tiles with width 0 are refused after their length is read, and before the offsets are
abbrev pub tile_no_length : Type 0
tile_no_length =
    page_of (told ((322, short 0) ∷ (324, unsigned 8) ∷ (325, unsigned 8) ∷ gray_tags))
    ≡ Err (FormatError (RequiredTagNotFound tag.TileLength))

abbrev pub tile_length_0 : Type 0
tile_length_0 =
    page_of (told
    ((322, short 4) ∷ (323, short 0) ∷ (324, unsigned 8) ∷ (325, unsigned 8) ∷ gray_tags))
    ≡ Err (FormatError (InvalidTagValueType tag.TileLength))

abbrev pub tile_width_first : Type 0
tile_width_first =
    page_of (told
    ((322, short 0) ∷ (323, short 4) ∷ (324, list (more (list none) none))
    ∷ (325, unsigned 8) ∷ gray_tags))
    ≡ Err (FormatError (InvalidTagValueType tag.TileWidth))

-- one tile that is larger than the image
abbrev pub large_tile : Type 0
large_tile =
    page_of (told
    ((322, short 16) ∷ (323, short 32) ∷ (324, unsigned 8) ∷ (325, unsigned 512)
    ∷ gray_tags))
    ≡ Ok (record gray_page {
      chunk_type = Tile;
      chunk_width = 16;
      chunk_height = 32;
      offsets = 8 ∷ [];
      byte_counts = 512 ∷ [];
    })

-- alpha counts only as the first extra sample
abbrev pub alpha_second : Type 0
alpha_second =
    color_of (record rgb_page
    { samples = 5; extra = extra.Unspecified ∷ extra.AssociatedAlpha ∷ [] })
    ≡ Ok (color.RGB 8)

abbrev pub associated_alpha : Type 0
associated_alpha =
    color_of (record rgb_page { samples = 4; extra = extra.AssociatedAlpha ∷ [] })
    ≡ Ok (color.RGBA 8)

abbrev pub rgb_five : Type 0
rgb_five =
    color_of (record rgb_page { samples = 5 })
    ≡ Err (UnsupportedError (InterpretationWithBits meaning.RGB (8 ∷ 8 ∷ 8 ∷ 8 ∷ 8 ∷ [])))

-- CMYK with four samples, with alpha as the fifth sample, and with three samples
abbrev pub cmyk_page : PageRecord
cmyk_page = record rgb_page { interpretation = meaning.CMYK; samples = 4 }

abbrev pub cmyk_four : Type 0
cmyk_four = color_of cmyk_page ≡ Ok (color.CMYK 8)

abbrev pub cmyk_alpha : Type 0
cmyk_alpha =
    color_of (record cmyk_page { samples = 5; extra = extra.UnassociatedAlpha ∷ [] })
    ≡ Ok (color.CMYKA 8)

abbrev pub cmyk_three : Type 0
cmyk_three =
    color_of (record cmyk_page { samples = 3 })
    ≡ Err (UnsupportedError (InterpretationWithBits meaning.CMYK (8 ∷ 8 ∷ 8 ∷ [])))

-- mistake: `ycbcr` counts the extra samples
-- YCbCr with three samples and an extra one, and with four; Lab; white as 0; another Lab
abbrev pub ycbcr_extra : Type 0
ycbcr_extra =
    color_of (record rgb_page {
      interpretation = meaning.YCbCr;
      samples = 4;
      extra = extra.UnassociatedAlpha ∷ [];
    })
    ≡ Ok (color.YCbCr 8)

abbrev pub ycbcr_four : Type 0
ycbcr_four =
    color_of (record rgb_page { interpretation = meaning.YCbCr; samples = 4 })
    ≡ Err (UnsupportedError (InterpretationWithBits meaning.YCbCr (8 ∷ 8 ∷ 8 ∷ 8 ∷ [])))

abbrev pub lab_color : Type 0
lab_color = color_of (record rgb_page { interpretation = meaning.IccLab }) ≡ Ok (color.Lab 8)

-- mistake: `color_of` finds no color where white is 0
abbrev pub white_color : Type 0
white_color =
    color_of (record gray_page { interpretation = meaning.WhiteIsZero }) ≡ Ok (color.Gray 8)

abbrev pub itu_lab : Type 0
itu_lab =
    color_of (record rgb_page { interpretation = meaning.ItuLab })
    ≡ Err (UnsupportedError (InterpretationWithBits meaning.ItuLab (8 ∷ 8 ∷ 8 ∷ [])))

-- the number type at the bounds of the depths
abbrev pub bits_8 : Type 0
bits_8 = sample_type_of gray_page ≡ Ok type.U8

abbrev pub bits_32 : Type 0
bits_32 = sample_type_of (record gray_page { depth = 32 }) ≡ Ok type.U32

abbrev pub bits_33 : Type 0
bits_33 = sample_type_of (record gray_page { depth = 33 }) ≡ Ok type.U64

-- mistake: `of_depth` is off by one at 16
-- mistake: `sample_type_of` takes signed for unsigned (`signed_64` fails too)
abbrev pub signed_16 : Type 0
signed_16 = sample_type_of (record gray_page { depth = 16; format = format.Int }) ≡ Ok type.I16

abbrev pub signed_64 : Type 0
signed_64 = sample_type_of (record gray_page { depth = 64; format = format.Int }) ≡ Ok type.I64

-- mistake: `float_of` rounds smaller depths up
abbrev pub float_8 : Type 0
float_8 =
    sample_type_of (record gray_page { format = format.IEEEFP })
    ≡ Err (UnsupportedError (UnsupportedSampleDepth 8))

abbrev pub float_64 : Type 0
float_64 = sample_type_of (record gray_page { depth = 64; format = format.IEEEFP }) ≡ Ok type.F64

-- mistake: `size_of` gives a half four bytes
abbrev pub half_size : Type 0
half_size = size_of type.F16 ≡ 2

abbrev pub double_size : Type 0
double_size = size_of type.F64 ≡ 8

-- layouts: a plane that is too long, with a row that isn't
abbrev pub plane_too_long : Type 0
plane_too_long =
    layout_of (record gray_page { depth = 64 }) 4294967295 4294967295 ≡ Err LimitsExceeded

-- a row that is too long is refused before half bytes, and half bytes before subsampled chroma
abbrev pub long_first : Type 0
long_first =
    layout_of (record gray_page {
      depth = 12;
      chunk_width = 3;
      chunk_height = 4294967295;
    }) 4294967295 (2 ^ 32) ≡ Err LimitsExceeded

-- mistake: `layout_of` exchanges two errors
abbrev pub half_bytes_first : Type 0
half_bytes_first =
    layout_of (record rgb_page { interpretation = meaning.YCbCr; depth = 4; chunk_width = 3 }) 4 3
    ≡ Err (UnsupportedError MisalignedTileBoundaries)

-- mistake: `whole_chroma` tests one direction
-- chroma that is subsampled in one direction, and a compression method that decodes subsampled
-- chroma
abbrev pub chroma_1_2 : Type 0
chroma_1_2 =
    layout_of (record rgb_page { interpretation = meaning.YCbCr; subsampling = (1, 2) }) 4 3
    ≡ Err (UnsupportedError ChromaSubsampling)

-- mistake: `jpeg_alone` refuses that method
abbrev pub chroma_jpeg : Type 0
chroma_jpeg =
    layout_of (record rgb_page { interpretation = meaning.YCbCr; method = method.ModernJPEG }) 4 3
    ≡ Ok (record { color = color.YCbCr 8; row_bytes = 12; plane_stride = 36 })
