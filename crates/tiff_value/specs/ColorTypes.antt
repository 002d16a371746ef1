-- What each color type says about its samples (TIFF 6.0 sections 3 to 6, 16, 19, 21; their names as
-- in the Rust crate, but for those of fewer than 8 bits, which it lacks).
use Rattle.std.specs.Prelude.{ℕ, ◌*◌, List, [], ◌∷◌, replicate}
use Rattle.tiff_base.specs.declared.tags.PhotometricInterpretation.{PhotometricInterpretation}
use Rattle.tiff_base.specs.declared.tags.PhotometricInterpretation.TheVariants as meaning
use Rattle.tiff_base.specs.declared.tags.SampleFormat.{SampleFormat}
use Rattle.tiff_base.specs.declared.tags.SampleFormat.TheVariants.{Uint, Int, IEEEFP}
use Rattle.tiff_base.specs.declared.tags.«Type».{«Type»}
use Rattle.tiff_base.specs.declared.tags.«Type».TheVariants as t
use Rattle.tiff_base.specs.Types.{type_size}
use Rattle.tiff_value.specs.declared.encoder.colortype.ColorTypeName.{ColorTypeName}
use Rattle.tiff_value.specs.declared.encoder.colortype.ColorTypeName.TheVariants as n
use Rattle.tiff_value.specs.ColorType.{ColorTypeRecord, IsColorType}

-- a color type with `samples` samples of one number of bits and one sample format
abbrev pub samples_of : PhotometricInterpretation → ℕ → ℕ → SampleFormat → ColorTypeRecord
samples_of interpretation samples bits format =
    record {
      interpretation = interpretation;
      bits = replicate samples bits;
      formats = replicate samples format;
    }

-- A family of color types: what the samples of a pixel mean, and how many they are (TIFF 6.0
-- sections 4 to 6, 16, 21).
pub data Family : Type 0 where
  Gray : Family
  RGB : Family
  RGBA : Family
  CMYK : Family
  CMYKA : Family
  YCbCr : Family

-- the interpretation of a family
abbrev pub meaning_of : Family → PhotometricInterpretation
meaning_of Gray = meaning.BlackIsZero
meaning_of RGB = meaning.RGB
meaning_of RGBA = meaning.RGB
meaning_of CMYK = meaning.CMYK
meaning_of CMYKA = meaning.CMYK
meaning_of YCbCr = meaning.YCbCr

-- the number of samples of a pixel of a family
abbrev pub count_of : Family → ℕ
count_of Gray = 1
count_of RGB = 3
count_of RGBA = 4
count_of CMYK = 4
count_of CMYKA = 5
count_of YCbCr = 3

-- the sample format of samples of a field type (TIFF 6.0 section 19)
abbrev pub format_of_type : «Type» → SampleFormat
format_of_type t.SBYTE = Int
format_of_type t.SSHORT = Int
format_of_type t.SLONG = Int
format_of_type t.SLONG8 = Int
format_of_type t.FLOAT = IEEEFP
format_of_type t.DOUBLE = IEEEFP
format_of_type type = Uint

-- the family of each color type, and the field type of its samples in memory; floating-point
-- samples are their bits, and a byte of packed pixels is a sample
abbrev pub family_and_type : ColorTypeName → Family × «Type»
family_and_type n.Gray8 = (Gray, t.BYTE)
family_and_type n.Gray16 = (Gray, t.SHORT)
family_and_type n.Gray32 = (Gray, t.LONG)
family_and_type n.Gray64 = (Gray, t.LONG8)
family_and_type n.GrayI8 = (Gray, t.SBYTE)
family_and_type n.GrayI16 = (Gray, t.SSHORT)
family_and_type n.GrayI32 = (Gray, t.SLONG)
family_and_type n.GrayI64 = (Gray, t.SLONG8)
family_and_type n.Gray32Float = (Gray, t.FLOAT)
family_and_type n.Gray64Float = (Gray, t.DOUBLE)
family_and_type n.RGB8 = (RGB, t.BYTE)
family_and_type n.RGB16 = (RGB, t.SHORT)
family_and_type n.RGB32 = (RGB, t.LONG)
family_and_type n.RGB64 = (RGB, t.LONG8)
family_and_type n.RGB32Float = (RGB, t.FLOAT)
family_and_type n.RGB64Float = (RGB, t.DOUBLE)
family_and_type n.RGBA8 = (RGBA, t.BYTE)
family_and_type n.RGBA16 = (RGBA, t.SHORT)
family_and_type n.RGBA32 = (RGBA, t.LONG)
family_and_type n.RGBA64 = (RGBA, t.LONG8)
family_and_type n.RGBA32Float = (RGBA, t.FLOAT)
family_and_type n.RGBA64Float = (RGBA, t.DOUBLE)
family_and_type n.CMYK8 = (CMYK, t.BYTE)
family_and_type n.CMYK16 = (CMYK, t.SHORT)
family_and_type n.CMYK32 = (CMYK, t.LONG)
family_and_type n.CMYK64 = (CMYK, t.LONG8)
family_and_type n.CMYK32Float = (CMYK, t.FLOAT)
family_and_type n.CMYK64Float = (CMYK, t.DOUBLE)
family_and_type n.YCbCr8 = (YCbCr, t.BYTE)
family_and_type n.CMYKA8 = (CMYKA, t.BYTE)
family_and_type n.Gray1 = (Gray, t.BYTE)
family_and_type n.Gray2 = (Gray, t.BYTE)
family_and_type n.Gray4 = (Gray, t.BYTE)

-- the number of bits of a sample of each color type: all bits of its field type, unless pixels are
-- packed into bytes
abbrev pub depth_of : ColorTypeName → ℕ
depth_of n.Gray1 = 1
depth_of n.Gray2 = 2
depth_of n.Gray4 = 4
depth_of name = 8 * type_size (family_and_type name).1

-- the color types, by their numbers from 0 on (the numbers are this project's)
abbrev pub color_types : List ColorTypeName
color_types =
    n.Gray8 ∷ n.Gray16 ∷ n.Gray32 ∷ n.Gray64 ∷ n.GrayI8 ∷ n.GrayI16 ∷ n.GrayI32 ∷ n.GrayI64
    ∷ n.Gray32Float ∷ n.Gray64Float
    ∷ n.RGB8 ∷ n.RGB16 ∷ n.RGB32 ∷ n.RGB64 ∷ n.RGB32Float ∷ n.RGB64Float
    ∷ n.RGBA8 ∷ n.RGBA16 ∷ n.RGBA32 ∷ n.RGBA64 ∷ n.RGBA32Float ∷ n.RGBA64Float
    ∷ n.CMYK8 ∷ n.CMYK16 ∷ n.CMYK32 ∷ n.CMYK64 ∷ n.CMYK32Float ∷ n.CMYK64Float
    ∷ n.YCbCr8 ∷ n.CMYKA8 ∷ n.Gray1 ∷ n.Gray2 ∷ n.Gray4 ∷ []

-- the interpretation, the numbers of bits and the sample formats of each color type
unfoldable pub color_type : ColorTypeName → ColorTypeRecord
color_type name =
    let family = (family_and_type name).0 in
    let inner = (family_and_type name).1 in
    samples_of (meaning_of family) (count_of family) (depth_of name) (format_of_type inner)

-- the field type of the samples of a color type in memory
unfoldable pub inner_type : ColorTypeName → «Type»
inner_type name = (family_and_type name).1

-- the number of bytes of a sample of a color type in memory
abbrev pub inner_size : ColorTypeName → ℕ
inner_size name = type_size (inner_type name)

-- ---- its law

-- Each name is the name of a color type.
abbrev pub AreColorTypes : Type 0
AreColorTypes = (name : ColorTypeName) → IsColorType (inner_size name) (color_type name)
