-- Colors, sample types and layouts.
use Rattle.std.specs.Prelude.{ℕ, ◌+◌, ◌-◌, ◌*◌, ◌/◌, ◌%◌, ◌^◌, Bool, true, false, List, [], ◌∷◌, length, replicate, Result, Ok, Err, if◌then◌else◌, ◌==◌, ◌&&◌, nat_lt, nat_le, not}
use Rattle.tiff_base.specs.declared.error.TiffError.{TiffError}
use Rattle.tiff_base.specs.declared.error.TiffError.TheVariants.{UnsupportedError, LimitsExceeded}
use Rattle.tiff_base.specs.declared.error.TiffUnsupportedError.TheVariants.{InterpretationWithBits, UnsupportedSampleFormat, UnsupportedSampleDepth, MisalignedTileBoundaries, ChromaSubsampling}
use Rattle.tiff_base.specs.declared.tags.PhotometricInterpretation.{PhotometricInterpretation}
use Rattle.tiff_base.specs.declared.tags.PhotometricInterpretation.TheVariants as meaning
use Rattle.tiff_base.specs.declared.color.ColorType.{ColorType}
use Rattle.tiff_base.specs.declared.color.ColorType.TheVariants.{Gray, RGB, RGBA, CMYK, CMYKA, YCbCr, Lab, Multiband}
use Rattle.tiff_base.specs.declared.tags.CompressionMethod.{CompressionMethod}
use Rattle.tiff_base.specs.declared.tags.CompressionMethod.TheVariants.{ModernJPEG}
use Rattle.tiff_base.specs.declared.tags.PlanarConfiguration.{PlanarConfiguration}
use Rattle.tiff_base.specs.declared.tags.PlanarConfiguration.TheVariants.{Chunky, Planar}
use Rattle.tiff_base.specs.declared.tags.SampleFormat.{SampleFormat}
use Rattle.tiff_base.specs.declared.tags.SampleFormat.TheVariants.{Uint, Int, IEEEFP}
use Rattle.tiff_page.specs.declared.layout.DecodingSampleType.{DecodingSampleType}
use Rattle.tiff_page.specs.declared.layout.DecodingSampleType.TheVariants.{U8, U16, U32, U64, F16, F32, F64, I8, I16, I32, I64}
use Rattle.tiff_base.specs.declared.tags.ExtraSamples.{ExtraSamples}
use Rattle.tiff_base.specs.declared.tags.ExtraSamples.TheVariants.{AssociatedAlpha, UnassociatedAlpha}
use Rattle.tiff_base.specs.Color.{num_samples}
use Rattle.tiff_base.specs.Answers.{◌>>=◌}
use Rattle.tiff_page.specs.Counts.{parts}
use Rattle.tiff_page.specs.Page.{PageRecord}

-- ---- the color

abbrev pub first_is_alpha : List ExtraSamples → Bool
first_is_alpha (AssociatedAlpha ∷ _) = true
first_is_alpha (UnassociatedAlpha ∷ _) = true
first_is_alpha _ = false

unfoldable pub no_color : PageRecord → Result ColorType TiffError
no_color p =
    Err (UnsupportedError (InterpretationWithBits p.interpretation (replicate p.samples p.depth)))

abbrev pub photometric : PageRecord → ℕ
photometric p = p.samples - length p.extra

abbrev pub rgb : PageRecord → Result ColorType TiffError
rgb p =
    if photometric p == 3 then Ok (if first_is_alpha p.extra then RGBA p.depth else RGB p.depth)
    else if photometric p == 4 then Ok (RGBA p.depth) else no_color p

abbrev pub cmyk : PageRecord → Result ColorType TiffError
cmyk p =
    if photometric p == 4 then Ok (if first_is_alpha p.extra then CMYKA p.depth else CMYK p.depth)
    else if photometric p == 5 then Ok (CMYKA p.depth) else no_color p

abbrev pub ycbcr : PageRecord → Result ColorType TiffError
ycbcr p = if photometric p == 3 then Ok (YCbCr p.depth) else no_color p

-- the color of a gray page counts the extra samples
abbrev pub gray : PageRecord → Result ColorType TiffError
gray p = if p.samples == 1 then Ok (Gray p.depth) else Ok (Multiband p.depth p.samples)

abbrev pub lab : SampleFormat → PageRecord → Result ColorType TiffError
lab Uint p = if photometric p == 3 then Ok (Lab p.depth) else no_color p
lab _ p = no_color p

abbrev pub color_from : PhotometricInterpretation → PageRecord → Result ColorType TiffError
color_from meaning.RGB p = rgb p
color_from meaning.CMYK p = cmyk p
color_from meaning.YCbCr p = ycbcr p
color_from meaning.BlackIsZero p = gray p
color_from meaning.WhiteIsZero p = gray p
color_from meaning.IccLab p = lab p.format p
color_from _ p = no_color p

unfoldable pub color_of : PageRecord → Result ColorType TiffError
color_of p = color_from p.interpretation p

-- ---- the sample type

abbrev pub of_depth : ℕ → DecodingSampleType → DecodingSampleType → DecodingSampleType
    → DecodingSampleType → Result DecodingSampleType TiffError
of_depth d a b c e =
    if nat_le d 8 then Ok a else if nat_le d 16 then Ok b else if nat_le d 32 then Ok c
    else if nat_le d 64 then Ok e
    else Err (UnsupportedError (UnsupportedSampleDepth d))

abbrev pub float_of : ℕ → Result DecodingSampleType TiffError
float_of d =
    if d == 16 then Ok F16 else if d == 32 then Ok F32 else if d == 64 then Ok F64
    else Err (UnsupportedError (UnsupportedSampleDepth d))

abbrev pub sample_type_from : SampleFormat → ℕ → Result DecodingSampleType TiffError
sample_type_from Uint d = of_depth d U8 U16 U32 U64
sample_type_from Int d = of_depth d I8 I16 I32 I64
sample_type_from IEEEFP d = float_of d
sample_type_from f d = Err (UnsupportedError (UnsupportedSampleFormat (f ∷ [])))

unfoldable pub sample_type_of : PageRecord → Result DecodingSampleType TiffError
sample_type_of p = sample_type_from p.format p.depth

abbrev pub size_of : DecodingSampleType → ℕ
size_of U8 = 1
size_of I8 = 1
size_of U16 = 2
size_of I16 = 2
size_of F16 = 2
size_of U32 = 4
size_of I32 = 4
size_of F32 = 4
size_of U64 = 8
size_of I64 = 8
size_of F64 = 8

-- ---- a layout

pub record LayoutRecord : Type 0 where
  pub color : ColorType
  pub row_bytes : ℕ
  pub plane_stride : ℕ

-- how many samples of a color a chunk contains, and how many planes contain them all
abbrev pub samples_in_chunk : PlanarConfiguration → ColorType → ℕ
samples_in_chunk Chunky color = num_samples color
samples_in_chunk Planar color = 1

abbrev pub planes : PlanarConfiguration → ColorType → ℕ
planes Chunky color = 1
planes Planar color = num_samples color

unfoldable pub row_bits : PageRecord → ColorType → ℕ → ℕ
row_bits p color width = width * p.depth * samples_in_chunk p.planar color

abbrev pub row_bytes : PageRecord → ColorType → ℕ → ℕ
row_bytes p color width = (row_bits p color width + 7) / 8

-- a number below 2^64
abbrev pub wide : ℕ → Result ℕ TiffError
wide n = if nat_lt n (2 ^ 64) then Ok n else Err LimitsExceeded

-- several chunks side by side have rows of whole bytes
abbrev pub whole_chunks : PageRecord → ColorType → ℕ → Result ColorType TiffError
whole_chunks p color width =
    if nat_lt 1 (parts width p.chunk_width) && not (row_bits p color p.chunk_width % 8 == 0)
    then Err (UnsupportedError MisalignedTileBoundaries)
    else Ok color

abbrev pub jpeg_alone : CompressionMethod → ColorType → Result ColorType TiffError
jpeg_alone ModernJPEG color = Ok color
jpeg_alone _ color = Err (UnsupportedError ChromaSubsampling)

abbrev pub whole_chroma : PageRecord → ColorType → Result ColorType TiffError
whole_chroma p (YCbCr d) = if p.subsampling.0 == 1 && p.subsampling.1 == 1 then Ok (YCbCr d)
    else jpeg_alone p.method (YCbCr d)
whole_chroma p color = Ok color

unfoldable pub layout_of : PageRecord → ℕ → ℕ → Result LayoutRecord TiffError
layout_of p width height = do
  color ← color_of p
  _ ← wide (row_bytes p color width * p.chunk_height)
  plane_stride ← wide (row_bytes p color width * height)
  _ ← whole_chunks p color width
  _ ← whole_chroma p color
  Ok (record { color = color; row_bytes = row_bytes p color width; plane_stride = plane_stride })
