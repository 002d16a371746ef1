-- Worked examples of the numbers of tags, types and other enums.
use Rattle.std.specs.Prelude.{◌≡◌, Some, None}
use Rattle.tiff_base.specs.declared.color.ColorType.TheVariants as color
use Rattle.tiff_base.specs.declared.tags.Tag.TheVariants as tag
use Rattle.tiff_base.specs.declared.tags.«Type».TheVariants as type
use Rattle.tiff_base.specs.declared.tags.CompressionMethod.TheVariants as method
use Rattle.tiff_base.specs.declared.tags.PhotometricInterpretation.TheVariants as meaning
use Rattle.tiff_base.specs.declared.tags.PlanarConfiguration.TheVariants as planar
use Rattle.tiff_base.specs.declared.tags.Predictor.TheVariants as predictor
use Rattle.tiff_base.specs.declared.tags.ResolutionUnit.TheVariants as unit
use Rattle.tiff_base.specs.declared.tags.SampleFormat.TheVariants as format
use Rattle.tiff_base.specs.declared.tags.ExtraSamples.TheVariants as extra
use Rattle.tiff_base.specs.Color.{bit_depth, num_samples}
use Rattle.tiff_base.specs.Tags.{tag_number, type_number, type_of, method_number, method_of, interpretation_number, interpretation_of, planar_number, planar_of, predictor_number, predictor_of, unit_number, format_number, format_of, extra_number, extra_of}
use Rattle.tiff_base.specs.Types.{type_size}

-- mistake: `tag_number` gives ImageWidth 257
-- a tag with a name, and a tag without one
abbrev pub width_tag : Type 0
width_tag = tag_number tag.ImageWidth ≡ 256

abbrev pub nodata_tag : Type 0
nodata_tag = tag_number tag.GdalNodata ≡ 42113

abbrev pub unknown_tag : Type 0
unknown_tag = tag_number (tag.Unknown 65000) ≡ 65000

-- the types: the numbers 0, 14, 15 and 19 aren't types
abbrev pub short_type : Type 0
short_type = type_of 3 ≡ Some type.SHORT

abbrev pub last_type : Type 0
last_type = type_of 18 ≡ Some type.IFD8

abbrev pub type_0 : Type 0
type_0 = type_of 0 ≡ None

-- mistake: `type_of` names LONG8 for 14
abbrev pub type_14 : Type 0
type_14 = type_of 14 ≡ None

abbrev pub type_15 : Type 0
type_15 = type_of 15 ≡ None

abbrev pub type_19 : Type 0
type_19 = type_of 19 ≡ None

abbrev pub short_number : Type 0
short_number = type_number type.SHORT ≡ 3

-- mistake: `type_number` gives LONG8 14
abbrev pub long8_number : Type 0
long8_number = type_number type.LONG8 ≡ 16

-- mistake: `type_size` gives a rational 4 bytes
-- a RATIONAL has eight bytes, and an UNDEFINED has one
abbrev pub rational_size : Type 0
rational_size = type_size type.RATIONAL ≡ 8

abbrev pub undefined_size : Type 0
undefined_size = type_size type.UNDEFINED ≡ 1

-- mistake: `method_of` names PackBits for 32946
-- compression methods
abbrev pub packbits : Type 0
packbits = method_of 32773 ≡ method.PackBits

abbrev pub unknown_method : Type 0
unknown_method = method_of 9 ≡ method.Unknown 9

-- mistake: `method_number` gives LZW 6
abbrev pub lzw_number : Type 0
lzw_number = method_number method.LZW ≡ 5

abbrev pub unknown_method_number : Type 0
unknown_method_number = method_number (method.Unknown 9) ≡ 9

-- photometric interpretations: 7 isn't one, nor are the numbers of camera raw
abbrev pub white_is_zero : Type 0
white_is_zero = interpretation_of 0 ≡ Some meaning.WhiteIsZero

abbrev pub itu_lab : Type 0
itu_lab = interpretation_of 10 ≡ Some meaning.ItuLab

-- mistake: `interpretation_of` names CIELab for 7
abbrev pub interpretation_7 : Type 0
interpretation_7 = interpretation_of 7 ≡ None

abbrev pub camera_raw : Type 0
camera_raw = interpretation_of 32803 ≡ None

-- mistake: `interpretation_number` gives CIELab 7
abbrev pub lab_number : Type 0
lab_number = interpretation_number meaning.CIELab ≡ 8

-- planar configurations
abbrev pub in_planes : Type 0
in_planes = planar_of 2 ≡ Some planar.Planar

-- mistake: `planar_of` names Chunky for 0
abbrev pub planar_0 : Type 0
planar_0 = planar_of 0 ≡ None

-- mistake: `planar_number` gives Chunky 0
abbrev pub chunky_number : Type 0
chunky_number = planar_number planar.Chunky ≡ 1

-- predictors
abbrev pub byte_plane : Type 0
byte_plane = predictor_of 3 ≡ Some predictor.FloatingPoint

-- mistake: `predictor_of` names FloatingPoint for 4
abbrev pub predictor_4 : Type 0
predictor_4 = predictor_of 4 ≡ None

-- mistake: `predictor_number` gives Horizontal 1
abbrev pub horizontal_number : Type 0
horizontal_number = predictor_number predictor.Horizontal ≡ 2

-- resolution units
abbrev pub no_unit : Type 0
no_unit = unit_number unit.None ≡ 1

-- mistake: `unit_number` gives Centimeter 2
abbrev pub centimeter : Type 0
centimeter = unit_number unit.Centimeter ≡ 3

-- sample formats
abbrev pub float_format : Type 0
float_format = format_of 3 ≡ format.IEEEFP

-- mistake: `format_of` names Void for all unknown numbers
abbrev pub unknown_format : Type 0
unknown_format = format_of 5 ≡ format.Unknown 5

-- mistake: `format_number` gives Void 3
abbrev pub void_number : Type 0
void_number = format_number format.Void ≡ 4

-- extra samples
abbrev pub loose_alpha : Type 0
loose_alpha = extra_of 2 ≡ Some extra.UnassociatedAlpha

-- mistake: `extra_of` names UnassociatedAlpha for 3
abbrev pub extra_3 : Type 0
extra_3 = extra_of 3 ≡ None

-- mistake: `extra_number` gives Unspecified 1
abbrev pub unspecified_number : Type 0
unspecified_number = extra_number extra.Unspecified ≡ 0

-- mistake: `num_samples` gives RGBA 3 samples
-- color types
abbrev pub rgba_samples : Type 0
rgba_samples = num_samples (color.RGBA 16) ≡ 4

abbrev pub many_samples : Type 0
many_samples = num_samples (color.Multiband 8 6) ≡ 6

abbrev pub rgba_bits : Type 0
rgba_bits = bit_depth (color.RGBA 16) ≡ 16

-- mistake: `bit_depth` gives Multiband the number of its samples
abbrev pub many_bits : Type 0
many_bits = bit_depth (color.Multiband 8 6) ≡ 8

-- further numbers of the enums
abbrev pub white_number : Type 0
white_number = interpretation_number meaning.WhiteIsZero ≡ 0

abbrev pub planar_number_2 : Type 0
planar_number_2 = planar_number planar.Planar ≡ 2

abbrev pub byte_plane_number : Type 0
byte_plane_number = predictor_number predictor.FloatingPoint ≡ 3

abbrev pub unknown_format_number : Type 0
unknown_format_number = format_number (format.Unknown 5) ≡ 5

abbrev pub loose_alpha_number : Type 0
loose_alpha_number = extra_number extra.UnassociatedAlpha ≡ 2
