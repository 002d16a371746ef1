-- What a single word stands for.
use Rattle.std.specs.Prelude.{ℕ, ◌+◌, ◌*◌, ◌^◌, List, Option, None, Some, codes, length, if◌then◌else◌, nat_le, nat_lt, is_nan, to_bits}
use Rattle.std.specs.Float.{binary32, binary64}
use Rattle.std.specs.Option.{option_and_then, option_map}
use Rattle.std.specs.Str.{bytes_eq}
use lib.Ieee.{Format}
use Rattle.std.specs.Float.Parse.{parse_float}
use Rattle.tiff_base.specs.declared.tags.ByteOrder.{ByteOrder}
use Rattle.tiff_base.specs.declared.tags.ByteOrder.TheVariants.{LittleEndian, BigEndian}
use Rattle.tiff_base.specs.declared.tags.Bits32.{Bits32}
use Rattle.tiff_base.specs.declared.tags.Bits64.{Bits64}
use Rattle.tiff_encode.specs.declared.encoder.settings.Compression.{Compression}
use Rattle.tiff_encode.specs.declared.encoder.settings.Compression.TheVariants.{Uncompressed, Packbits, PackbitsRows}
use Rattle.tiff_value.specs.declared.encoder.colortype.ColorTypeName.{ColorTypeName}
use Rattle.tiff_value.specs.declared.encoder.colortype.ColorTypeName.TheVariants as names
use Rattle.tiff_value.specs.declared.encoder.tiff_value.Ifd.{Ifd}
use Rattle.tiff_value.specs.declared.encoder.tiff_value.Ifd8.{Ifd8}
use Rattle.tiff_value.specs.declared.encoder.tiff_value.Rational.{Rational}
use Rattle.tiff_value.specs.declared.encoder.tiff_value.SRational.{SRational}
use Rattle.tiff_script.specs.Numbers.{is_hexadecimal, magnitude, number, signed, unsigned}
use Rattle.tiff_script.specs.Line.{◌>>=◌, before, behind, has}

-- what the number that a word is stands for, as a tag or a type
abbrev pub numbered : {X : Type 0} → (ℕ → Option X) → List ℕ → Option X
numbered of_number word = option_and_then of_number (unsigned 16 word)

-- the bits of a floating-point number: the number that is nearest to a decimal one, which isn't
-- NaN; or the bits as hexadecimal digits behind `0x`
abbrev pub float_bits : Format → (List ℕ → Option ℕ) → List ℕ → Option ℕ
float_bits format bits word =
    if is_hexadecimal word then bits word
    else option_and_then (λ x. if is_nan x then None else Some (to_bits format x))
    (parse_float format word)

-- the bits of a number of 32 or 64 bits
unfoldable pub bits32 : List ℕ → Option Bits32
bits32 word = option_map (λ n. record { 0 = n }) (float_bits binary32 (unsigned 32) word)

unfoldable pub bits64 : List ℕ → Option Bits64
bits64 word = option_map (λ n. record { 0 = n }) (float_bits binary64 magnitude word)

-- the offset of a directory, of 32 or 64 bits
abbrev pub ifd : List ℕ → Option Ifd
ifd word = option_map (λ n. record { 0 = n }) (unsigned 32 word)

abbrev pub ifd8 : List ℕ → Option Ifd8
ifd8 word = option_map (λ n. record { 0 = n }) (magnitude word)

-- ---- fractions

abbrev pub point : ℕ
point = 46

abbrev pub slash : ℕ
slash = 47

-- a fraction whose numerator has 32 bits at most
abbrev pub fraction_of : ℕ → ℕ → Option Rational
fraction_of n d = if nat_lt n (2 ^ 32) then Some (record { n = n; d = d }) else None

-- The fraction that a decimal number is, with nine digits behind its point at most: `72.5` is
-- 725/10.
unfoldable pub decimal : List ℕ → List ℕ → Option Rational
decimal whole digits =
    if nat_le (length digits) 9 then (do
      w ← number 10 whole
      f ← number 10 digits
      fraction_of (w * 10 ^ length digits + f) (10 ^ length digits))
    else None

-- the denominator of a word, behind its `/`: 1 if it has none
abbrev pub denominator : List ℕ → List ℕ
denominator word = if has slash word then behind slash word else codes "1"

-- a fraction, as `300/1`, `300` or `72.5`
unfoldable pub fraction : List ℕ → Option Rational
fraction word =
    if has point word then decimal (before point word) (behind point word)
    else (do
      n ← unsigned 32 (before slash word)
      d ← unsigned 32 (denominator word)
      Some (record { n = n; d = d }))

-- a fraction of numbers with a sign, as `-1/3`
unfoldable pub signed_fraction : List ℕ → Option SRational
signed_fraction word = do
  n ← signed 32 (before slash word)
  d ← signed 32 (denominator word)
  Some (record { n = n; d = d })

-- ---- names

-- the byte order that a word is
unfoldable pub order : List ℕ → Option ByteOrder
order word =
    if bytes_eq word (codes "little") then Some LittleEndian
    else (if bytes_eq word (codes "big") then Some BigEndian else None)

-- the compression that a word is
unfoldable pub compression : List ℕ → Option Compression
compression word =
    if bytes_eq word (codes "uncompressed") then Some Uncompressed
    else (if bytes_eq word (codes "packbits") then Some PackbitsRows
    else (if bytes_eq word (codes "packbits-chunks") then Some Packbits else None))

-- of inks
unfoldable pub color_of_inks : List ℕ → Option ColorTypeName
color_of_inks word =
    if bytes_eq word (codes "CMYK8") then Some names.CMYK8
    else (if bytes_eq word (codes "CMYK16") then Some names.CMYK16
    else (if bytes_eq word (codes "CMYK32") then Some names.CMYK32
    else (if bytes_eq word (codes "CMYK64") then Some names.CMYK64
    else (if bytes_eq word (codes "CMYK32Float") then Some names.CMYK32Float
    else (if bytes_eq word (codes "CMYK64Float") then Some names.CMYK64Float
    else (if bytes_eq word (codes "CMYKA8") then Some names.CMYKA8
    else None))))))

-- with alpha
unfoldable pub color_with_alpha : List ℕ → Option ColorTypeName
color_with_alpha word =
    if bytes_eq word (codes "RGBA8") then Some names.RGBA8
    else (if bytes_eq word (codes "RGBA16") then Some names.RGBA16
    else (if bytes_eq word (codes "RGBA32") then Some names.RGBA32
    else (if bytes_eq word (codes "RGBA64") then Some names.RGBA64
    else (if bytes_eq word (codes "RGBA32Float") then Some names.RGBA32Float
    else (if bytes_eq word (codes "RGBA64Float") then Some names.RGBA64Float
    else color_of_inks word)))))

-- of red, green and blue
unfoldable pub color_of_colors : List ℕ → Option ColorTypeName
color_of_colors word =
    if bytes_eq word (codes "RGB8") then Some names.RGB8
    else (if bytes_eq word (codes "RGB16") then Some names.RGB16
    else (if bytes_eq word (codes "RGB32") then Some names.RGB32
    else (if bytes_eq word (codes "RGB64") then Some names.RGB64
    else (if bytes_eq word (codes "RGB32Float") then Some names.RGB32Float
    else (if bytes_eq word (codes "RGB64Float") then Some names.RGB64Float
    else (if bytes_eq word (codes "YCbCr8") then Some names.YCbCr8
    else color_with_alpha word))))))

-- the color type that a word is the name of
unfoldable pub color : List ℕ → Option ColorTypeName
color word =
    if bytes_eq word (codes "Gray8") then Some names.Gray8
    else (if bytes_eq word (codes "Gray16") then Some names.Gray16
    else (if bytes_eq word (codes "Gray32") then Some names.Gray32
    else (if bytes_eq word (codes "Gray64") then Some names.Gray64
    else (if bytes_eq word (codes "GrayI8") then Some names.GrayI8
    else (if bytes_eq word (codes "GrayI16") then Some names.GrayI16
    else (if bytes_eq word (codes "GrayI32") then Some names.GrayI32
    else (if bytes_eq word (codes "GrayI64") then Some names.GrayI64
    else (if bytes_eq word (codes "Gray32Float") then Some names.Gray32Float
    else (if bytes_eq word (codes "Gray64Float") then Some names.Gray64Float
    else (if bytes_eq word (codes "Gray1") then Some names.Gray1
    else (if bytes_eq word (codes "Gray2") then Some names.Gray2
    else (if bytes_eq word (codes "Gray4") then Some names.Gray4
    else color_of_colors word))))))))))))
