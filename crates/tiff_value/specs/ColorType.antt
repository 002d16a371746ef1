-- What color types say about their samples.
use Rattle.std.specs.Prelude.{◌≡◌, ℕ, ◌+◌, ◌*◌, ◌/◌, ◌%◌, ◌^◌, ◌<◌, ◌⊎◌, Bool, nat_lt, if◌then◌else◌, List, [], ◌∷◌, length, get_or, All}
use Rattle.tiff_base.specs.declared.tags.PhotometricInterpretation.{PhotometricInterpretation}
use Rattle.tiff_base.specs.declared.tags.SampleFormat.{SampleFormat}

-- the photometric interpretation, and the number of bits and the sample format of each sample of a
-- pixel
pub record ColorTypeRecord : Type 0 where
  pub interpretation : PhotometricInterpretation
  pub bits : List ℕ
  pub formats : List SampleFormat

-- the number of a sample: its bits, as far as its bytes can encode them
abbrev pub sample_number : {A : Type 0} → ℕ → (A → ℕ) → A → ℕ
sample_number size bits x = bits x % 256 ^ size

-- the number of bits of the first sample of a pixel
abbrev pub first_bits : ColorTypeRecord → ℕ
first_bits c = get_or c.bits 0 0

-- whether a sample has fewer bits than a byte, so that a byte in memory holds several pixels
abbrev pub is_packed : ColorTypeRecord → Bool
is_packed c = nat_lt (first_bits c) 8

-- the number of columns of a row of pixels: a column is a pixel, or a byte of packed pixels, of
-- which the last may be partly used
abbrev pub columns_of : ColorTypeRecord → ℕ → ℕ
columns_of c width = if is_packed c then (width * first_bits c + 7) / 8 else width

-- A pixel has one sample, of 1, 2 or 4 bits; its samples in memory are bytes of several pixels.
pub record ArePacked (size : ℕ) (c : ColorTypeRecord) : Type 0 where
  pub byte : size ≡ 1
  pub narrow : (c.bits ≡ 1 ∷ []) ⊎ ((c.bits ≡ 2 ∷ []) ⊎ (c.bits ≡ 4 ∷ []))

-- What every color type says about samples of `size` bytes in memory: there is at least one sample,
-- and no more than a count of two bytes can encode; there are as many sample formats as numbers of
-- bits; each sample has all the bits of its bytes, or pixels are packed into bytes; and all samples
-- have one format.
pub record IsColorType (size : ℕ) (c : ColorTypeRecord) : Type 0 where
  pub some : 0 < length c.bits
  pub few : length c.bits < 2 ^ 16
  pub as_many : length c.formats ≡ length c.bits
  pub full : All (λ (bits : ℕ). bits ≡ 8 * size) c.bits ⊎ ArePacked size c
  pub format : SampleFormat
  pub alike : All (λ (f : SampleFormat). f ≡ format) c.formats
