-- The samples of an image as words.
use Rattle.std.specs.Prelude.{ℕ, ◌+◌, ◌-◌, ◌*◌, ◌^◌, ◌==◌, List, [], ◌∷◌, ◌++◌, bit_xor, length, map, max, min, nat_le, Option, None, Some, if◌then◌else◌, replicate, slice_get, unwrap_or}
use Rattle.std.specs.Int.{cast_unsigned, w64}
use Rattle.std.specs.List.{concat, range_with_len}
use Rattle.std.specs.Option.{option_map}
use Rattle.tiff_base.specs.declared.tags.SampleFormat.{SampleFormat}
use Rattle.tiff_base.specs.declared.tags.SampleFormat.TheVariants.{IEEEFP, Int, Uint}
use Rattle.tiff_value.specs.ColorType.{ColorTypeRecord, columns_of}
use Rattle.tiff_value.specs.ColorTypes.{color_type}
use Rattle.tiff_value.specs.declared.encoder.colortype.ColorTypeName.{ColorTypeName}
use Rattle.tiff_script.specs.declared.samples.Pixel.{Pixel}
use Rattle.tiff_script.specs.declared.samples.SampleRange.{SampleRange}
use Rattle.tiff_script.specs.declared.samples.SampleType.{SampleType}
use Rattle.tiff_script.specs.declared.samples.SampleType.TheVariants.{F32, F64, I8, I16, I32, I64, U8, U16, U32, U64}
use Rattle.tiff_script.specs.declared.samples.SampleWords.{SampleWords}
use Rattle.tiff_script.specs.Line.{◌>>=◌, after_all, before, behind, count_of, has, star, words_of}
use Rattle.tiff_script.specs.Numbers.{magnitude, signed, unsigned}
use Rattle.tiff_script.specs.Stands.{bits32, bits64, point}

-- ---- the type of samples

-- unsigned samples of so many bits; those of fewer than 8 are packed into bytes
abbrev pub unsigned_type : ℕ → SampleType
unsigned_type bits =
    if nat_le bits 8 then U8 else (if bits == 16 then U16 else (if bits == 32 then U32 else U64))

abbrev pub signed_type : ℕ → SampleType
signed_type bits =
    if bits == 8 then I8 else (if bits == 16 then I16 else (if bits == 32 then I32 else I64))

abbrev pub float_type : ℕ → SampleType
float_type bits = if bits == 32 then F32 else F64

abbrev pub sample_type : SampleFormat → ℕ → SampleType
sample_type Int bits = signed_type bits
sample_type IEEEFP bits = float_type bits
sample_type other bits = unsigned_type bits

-- the type and the number of the samples of a pixel
abbrev pub pixel_of : ColorTypeRecord → Pixel
pixel_of color = record {
  sample = sample_type (unwrap_or (slice_get color.formats 0) Uint)
      (unwrap_or (slice_get color.bits 0) 8);
  samples = length color.bits;
}

-- the samples of an image of these sides, whose columns are pixels or bytes of packed pixels
unfoldable pub written : ColorTypeName → ℕ → ℕ → SampleWords
written color width height = record {
  pixel = pixel_of (color_type color);
  columns = columns_of (color_type color) width * height;
}

-- the same in tiles, which may be larger than the image
unfoldable pub tiled : SampleWords → ℕ → ℕ → SampleWords
tiled w width height = record w { columns = max w.columns (width * height) }

-- the same with so many more samples in each pixel
unfoldable pub extended : SampleWords → ℕ → SampleWords
extended w count =
    record w { pixel = record w.pixel { samples = min (w.pixel.samples + count) (2 ^ 64 - 1) } }

-- the most samples of a word: those of the image, and always one
abbrev pub most : SampleWords → ℕ
most w = max (w.columns * w.pixel.samples) 1

-- ---- samples

-- a sample; one with a sign keeps it in all 64 bits, and of a floating-point number it is the bits
unfoldable pub sample : SampleType → List ℕ → Option ℕ
sample U8 word = unsigned 8 word
sample U16 word = unsigned 16 word
sample U32 word = unsigned 32 word
sample U64 word = magnitude word
sample I8 word = option_map (cast_unsigned w64) (signed 8 word)
sample I16 word = option_map (cast_unsigned w64) (signed 16 word)
sample I32 word = option_map (cast_unsigned w64) (signed 32 word)
sample I64 word = option_map (cast_unsigned w64) (signed 64 word)
sample F32 word = option_map (λ b. b.0) (bits32 word)
sample F64 word = option_map (λ b. b.0) (bits64 word)

-- ---- the samples of a word

-- The bit that makes a number of a sample so that the order of the numbers is that of the samples,
-- and of the number the sample again. A floating-point number has no next one.
abbrev pub sign_of : SampleType → Option ℕ
sign_of U8 = Some 0
sign_of U16 = Some 0
sign_of U32 = Some 0
sign_of U64 = Some 0
sign_of F32 = None
sign_of F64 = None
sign_of signed = Some (2 ^ 63)

-- a range from one sample to another, unless it falls
unfoldable pub range_of : SampleType → List ℕ → List ℕ → Option SampleRange
range_of type first last = do
  sign ← sign_of type
  a ← sample type first
  b ← sample type last
  if nat_le (bit_xor a sign) (bit_xor b sign)
      then Some (record { first = bit_xor a sign; last = bit_xor b sign; sign = sign }) else None

-- the samples of a range
abbrev pub ascending : SampleRange → List ℕ
ascending r = map (λ n. bit_xor n r.sign) (range_with_len r.first (r.last + 1 - r.first))

-- what stands behind a point in front
abbrev pub behind_point : List ℕ → Option (List ℕ)
behind_point [] = None
behind_point (c ∷ rest) = if c == point then Some rest else None

-- both ends of a range, as `0` and `255` of `0..255`
unfoldable pub range_ends : List ℕ → Option (List ℕ × List ℕ)
range_ends word =
    if has point word
    then option_map (λ last. (before point word, last)) (behind_point (behind point word))
    else None

-- the samples of a range, or the one that a word is
abbrev pub samples_by : SampleType → List ℕ → Option (List ℕ × List ℕ) → Option (List ℕ)
samples_by type word None = option_map (λ s. s ∷ []) (sample type word)
samples_by type word (Some ends) = option_map ascending (range_of type ends.0 ends.1)

-- samples with these behind them, as often as they count, if a word may have so many
unfoldable pub with_run : SampleWords → List ℕ → List ℕ → ℕ → Option (List ℕ)
with_run w samples run count =
    if nat_le (count * length run) (most w) then Some (samples ++ concat (replicate count run))
    else None

-- samples with those of one more word behind them
unfoldable pub with_samples : SampleWords → List ℕ → List ℕ → Option (List ℕ)
with_samples w samples word = do
  count ← count_of word
  run ← samples_by w.pixel.sample (before star word) (range_ends (before star word))
  with_run w samples run count

-- the samples that words are
unfoldable pub samples : SampleWords → List ℕ → Option (List ℕ)
samples w words = after_all (with_samples w) [] (words_of words)
