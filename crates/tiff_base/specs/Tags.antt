-- The numbers of TIFF's enums.
use Rattle.std.specs.Prelude.{ℕ, Option, Some, None, unwrap_or, List, [], ◌∷◌, if◌then◌else◌, ◌==◌}
use Rattle.tiff_base.specs.declared.tags.Tag.{Tag}
use Rattle.tiff_base.specs.declared.tags.Tag.TheVariants as t
use Rattle.tiff_base.specs.declared.tags.«Type».{«Type»}
use Rattle.tiff_base.specs.declared.tags.«Type».TheVariants as y
use Rattle.tiff_base.specs.declared.tags.CompressionMethod.{CompressionMethod}
use Rattle.tiff_base.specs.declared.tags.CompressionMethod.TheVariants as m
use Rattle.tiff_base.specs.declared.tags.PhotometricInterpretation.{PhotometricInterpretation}
use Rattle.tiff_base.specs.declared.tags.PhotometricInterpretation.TheVariants as i
use Rattle.tiff_base.specs.declared.tags.PlanarConfiguration.{PlanarConfiguration}
use Rattle.tiff_base.specs.declared.tags.PlanarConfiguration.TheVariants as c
use Rattle.tiff_base.specs.declared.tags.Predictor.{Predictor}
use Rattle.tiff_base.specs.declared.tags.Predictor.TheVariants as p
use Rattle.tiff_base.specs.declared.tags.ResolutionUnit.{ResolutionUnit}
use Rattle.tiff_base.specs.declared.tags.ResolutionUnit.TheVariants as u
use Rattle.tiff_base.specs.declared.tags.SampleFormat.{SampleFormat}
use Rattle.tiff_base.specs.declared.tags.SampleFormat.TheVariants as f
use Rattle.tiff_base.specs.declared.tags.ExtraSamples.{ExtraSamples}
use Rattle.tiff_base.specs.declared.tags.ExtraSamples.TheVariants as e

-- the first of these values that has the number n, if one has it
abbrev pub find_by : {A : Type 0} → (A → ℕ) → ℕ → List A → Option A
find_by number n [] = None
find_by number n (x ∷ rest) = if n == number x then Some x else find_by number n rest

-- The numbers of the tags of a directory (TIFF 6.0, its supplements, GeoTIFF, EXIF, ICC, GDAL).
abbrev pub tag_number : Tag → ℕ
tag_number t.NewSubfileType = 254
tag_number t.SubfileType = 255
tag_number t.ImageWidth = 256
tag_number t.ImageLength = 257
tag_number t.BitsPerSample = 258
tag_number t.Compression = 259
tag_number t.PhotometricInterpretation = 262
tag_number t.Threshholding = 263
tag_number t.CellWidth = 264
tag_number t.CellLength = 265
tag_number t.FillOrder = 266
tag_number t.ImageDescription = 270
tag_number t.Make = 271
tag_number t.Model = 272
tag_number t.StripOffsets = 273
tag_number t.Orientation = 274
tag_number t.SamplesPerPixel = 277
tag_number t.RowsPerStrip = 278
tag_number t.StripByteCounts = 279
tag_number t.MinSampleValue = 280
tag_number t.MaxSampleValue = 281
tag_number t.XResolution = 282
tag_number t.YResolution = 283
tag_number t.PlanarConfiguration = 284
tag_number t.FreeOffsets = 288
tag_number t.FreeByteCounts = 289
tag_number t.GrayResponseUnit = 290
tag_number t.GrayResponseCurve = 291
tag_number t.ResolutionUnit = 296
tag_number t.Software = 305
tag_number t.DateTime = 306
tag_number t.Artist = 315
tag_number t.HostComputer = 316
tag_number t.Predictor = 317
tag_number t.ColorMap = 320
tag_number t.TileWidth = 322
tag_number t.TileLength = 323
tag_number t.TileOffsets = 324
tag_number t.TileByteCounts = 325
tag_number t.SubIfd = 330
tag_number t.ExtraSamples = 338
tag_number t.SampleFormat = 339
tag_number t.SMinSampleValue = 340
tag_number t.SMaxSampleValue = 341
tag_number t.JPEGTables = 347
tag_number t.ChromaSubsampling = 530
tag_number t.ChromaPositioning = 531
tag_number t.Copyright = 33432
tag_number t.ModelPixelScaleTag = 33550
tag_number t.ModelTiepointTag = 33922
tag_number t.ModelTransformationTag = 34264
tag_number t.ExifDirectory = 34665
tag_number t.IccProfile = 34675
tag_number t.GeoKeyDirectoryTag = 34735
tag_number t.GeoDoubleParamsTag = 34736
tag_number t.GeoAsciiParamsTag = 34737
tag_number t.GpsDirectory = 34853
tag_number t.ExifVersion = 36864
tag_number t.GdalNodata = 42113
tag_number (t.Unknown n) = n

-- the tags that have a name
abbrev pub named_tags : List Tag
named_tags =
    t.NewSubfileType ∷ t.SubfileType ∷ t.ImageWidth ∷ t.ImageLength ∷ t.BitsPerSample
    ∷ t.Compression ∷ t.PhotometricInterpretation ∷ t.Threshholding ∷ t.CellWidth ∷ t.CellLength
    ∷ t.FillOrder ∷ t.ImageDescription ∷ t.Make ∷ t.Model ∷ t.StripOffsets ∷ t.Orientation
    ∷ t.SamplesPerPixel ∷ t.RowsPerStrip ∷ t.StripByteCounts ∷ t.MinSampleValue ∷ t.MaxSampleValue
    ∷ t.XResolution ∷ t.YResolution ∷ t.PlanarConfiguration ∷ t.FreeOffsets ∷ t.FreeByteCounts
    ∷ t.GrayResponseUnit ∷ t.GrayResponseCurve ∷ t.ResolutionUnit ∷ t.Software ∷ t.DateTime
    ∷ t.Artist ∷ t.HostComputer ∷ t.Predictor ∷ t.ColorMap ∷ t.TileWidth ∷ t.TileLength
    ∷ t.TileOffsets ∷ t.TileByteCounts ∷ t.SubIfd ∷ t.ExtraSamples ∷ t.SampleFormat
    ∷ t.SMinSampleValue ∷ t.SMaxSampleValue ∷ t.JPEGTables ∷ t.ChromaSubsampling
    ∷ t.ChromaPositioning ∷ t.Copyright ∷ t.ModelPixelScaleTag ∷ t.ModelTiepointTag
    ∷ t.ModelTransformationTag ∷ t.ExifDirectory ∷ t.IccProfile ∷ t.GeoKeyDirectoryTag
    ∷ t.GeoDoubleParamsTag ∷ t.GeoAsciiParamsTag ∷ t.GpsDirectory ∷ t.ExifVersion ∷ t.GdalNodata
    ∷ []

-- the tag of a number
unfoldable pub tag_of : ℕ → Tag
tag_of n = unwrap_or (find_by tag_number n named_tags) (t.Unknown n)

-- the tag, if it has a name
abbrev pub named_tag : Tag → Option Tag
named_tag (t.Unknown n) = None
named_tag tag = Some tag

-- The numbers of the types of a field's values (TIFF 6.0 section 2; BigTIFF).
abbrev pub type_number : «Type» → ℕ
type_number y.BYTE = 1
type_number y.ASCII = 2
type_number y.SHORT = 3
type_number y.LONG = 4
type_number y.RATIONAL = 5
type_number y.SBYTE = 6
type_number y.UNDEFINED = 7
type_number y.SSHORT = 8
type_number y.SLONG = 9
type_number y.SRATIONAL = 10
type_number y.FLOAT = 11
type_number y.DOUBLE = 12
type_number y.IFD = 13
type_number y.LONG8 = 16
type_number y.SLONG8 = 17
type_number y.IFD8 = 18

-- the types
abbrev pub types : List «Type»
types =
    y.BYTE ∷ y.ASCII ∷ y.SHORT ∷ y.LONG ∷ y.RATIONAL ∷ y.SBYTE ∷ y.UNDEFINED ∷ y.SSHORT ∷ y.SLONG
    ∷ y.SRATIONAL ∷ y.FLOAT ∷ y.DOUBLE ∷ y.IFD ∷ y.LONG8 ∷ y.SLONG8 ∷ y.IFD8 ∷ []

-- the type of a number, if there is one
unfoldable pub type_of : ℕ → Option «Type»
type_of n = find_by type_number n types

-- The numbers of the compression methods of strips and tiles (TIFF 6.0 sections 3, 9 and later
-- ones).
abbrev pub method_number : CompressionMethod → ℕ
method_number m.None = 1
method_number m.Huffman = 2
method_number m.Fax3 = 3
method_number m.Fax4 = 4
method_number m.LZW = 5
method_number m.JPEG = 6
method_number m.ModernJPEG = 7
method_number m.Deflate = 8
method_number m.PackBits = 32773
method_number m.OldDeflate = 32946
method_number m.ZSTD = 50000
method_number m.WebP = 50001
method_number (m.Unknown n) = n

-- the compression methods that have a name
abbrev pub named_methods : List CompressionMethod
named_methods =
    m.None ∷ m.Huffman ∷ m.Fax3 ∷ m.Fax4 ∷ m.LZW ∷ m.JPEG ∷ m.ModernJPEG ∷ m.Deflate ∷ m.PackBits
    ∷ m.OldDeflate ∷ m.ZSTD ∷ m.WebP ∷ []

-- the compression method of a number
unfoldable pub method_of : ℕ → CompressionMethod
method_of n = unwrap_or (find_by method_number n named_methods) (m.Unknown n)

-- the compression method, if it has a name
abbrev pub named_method : CompressionMethod → Option CompressionMethod
named_method (m.Unknown n) = None
named_method method = Some method

-- The numbers of the photometric interpretations: what the samples of a page mean (TIFF 6.0 section
-- 8).
abbrev pub interpretation_number : PhotometricInterpretation → ℕ
interpretation_number i.WhiteIsZero = 0
interpretation_number i.BlackIsZero = 1
interpretation_number i.RGB = 2
interpretation_number i.RGBPalette = 3
interpretation_number i.TransparencyMask = 4
interpretation_number i.CMYK = 5
interpretation_number i.YCbCr = 6
interpretation_number i.CIELab = 8
interpretation_number i.IccLab = 9
interpretation_number i.ItuLab = 10

-- the photometric interpretations
abbrev pub interpretations : List PhotometricInterpretation
interpretations =
    i.WhiteIsZero ∷ i.BlackIsZero ∷ i.RGB ∷ i.RGBPalette ∷ i.TransparencyMask ∷ i.CMYK ∷ i.YCbCr
    ∷ i.CIELab ∷ i.IccLab ∷ i.ItuLab ∷ []

-- the interpretation of a number, if there is one
unfoldable pub interpretation_of : ℕ → Option PhotometricInterpretation
interpretation_of n = find_by interpretation_number n interpretations

-- The numbers of the planar configurations: whether the samples of a pixel lie together or in
-- separate planes (TIFF 6.0 section 8).
abbrev pub planar_number : PlanarConfiguration → ℕ
planar_number c.Chunky = 1
planar_number c.Planar = 2

-- the planar configurations
abbrev pub planars : List PlanarConfiguration
planars =
    c.Chunky ∷ c.Planar ∷ []

-- the planar configuration of a number, if there is one
unfoldable pub planar_of : ℕ → Option PlanarConfiguration
planar_of n = find_by planar_number n planars

-- The numbers of the predictors: what a writer does to samples before compression (TIFF 6.0 section
-- 14).
abbrev pub predictor_number : Predictor → ℕ
predictor_number p.None = 1
predictor_number p.Horizontal = 2
predictor_number p.FloatingPoint = 3

-- the predictors
abbrev pub predictors : List Predictor
predictors =
    p.None ∷ p.Horizontal ∷ p.FloatingPoint ∷ []

-- the predictor of a number, if there is one
unfoldable pub predictor_of : ℕ → Option Predictor
predictor_of n = find_by predictor_number n predictors

-- The numbers of the units of a resolution (TIFF 6.0 section 8).
abbrev pub unit_number : ResolutionUnit → ℕ
unit_number u.None = 1
unit_number u.Inch = 2
unit_number u.Centimeter = 3

-- the units
abbrev pub units : List ResolutionUnit
units =
    u.None ∷ u.Inch ∷ u.Centimeter ∷ []

-- the unit of a number, if there is one
unfoldable pub unit_of : ℕ → Option ResolutionUnit
unit_of n = find_by unit_number n units

-- The numbers of the sample formats: what kind of number the bits of a sample are (TIFF 6.0 section
-- 19).
abbrev pub format_number : SampleFormat → ℕ
format_number f.Uint = 1
format_number f.Int = 2
format_number f.IEEEFP = 3
format_number f.Void = 4
format_number (f.Unknown n) = n

-- the sample formats that have a name
abbrev pub named_formats : List SampleFormat
named_formats =
    f.Uint ∷ f.Int ∷ f.IEEEFP ∷ f.Void ∷ []

-- the sample format of a number
unfoldable pub format_of : ℕ → SampleFormat
format_of n = unwrap_or (find_by format_number n named_formats) (f.Unknown n)

-- the sample format, if it has a name
abbrev pub named_format : SampleFormat → Option SampleFormat
named_format (f.Unknown n) = None
named_format format = Some format

-- The numbers of the meanings of an extra sample, one beyond those of the color (TIFF 6.0 section
-- 8).
abbrev pub extra_number : ExtraSamples → ℕ
extra_number e.Unspecified = 0
extra_number e.AssociatedAlpha = 1
extra_number e.UnassociatedAlpha = 2

-- the meanings
abbrev pub extras : List ExtraSamples
extras =
    e.Unspecified ∷ e.AssociatedAlpha ∷ e.UnassociatedAlpha ∷ []

-- the meaning of a number, if there is one
unfoldable pub extra_of : ℕ → Option ExtraSamples
extra_of n = find_by extra_number n extras
