-- The samples that are given for an image or a chunk (this project's).
use Rattle.std.specs.Prelude.{◌≡◌, ℕ, ◌%◌, true, List, length, map}
use Rattle.tiff_base.specs.declared.tags.Predictor.TheVariants as predictor
use Rattle.tiff_page.specs.Pixels.{numbers_in}
use Rattle.tiff_value.specs.ColorType.{sample_number}
use Rattle.tiff_encode.specs.declared.encoder.image.chunks.ImageSamples.{ImageSamples}
use Rattle.tiff_encode.specs.declared.encoder.image.chunks.ImageSamples.TheVariants.{Typed, Stored}
use Rattle.tiff_encode.specs.declared.encoder.settings.Compression.TheVariants.{Uncompressed}
use Rattle.tiff_encode.specs.Chunks.{is_in_order}
use Rattle.tiff_encode.specs.Machine.{OpenImage}

-- the numbers of the samples, of `size` bytes each
abbrev pub given_numbers : {S : Type 0} → ℕ → (S → ℕ) → ImageSamples S → List ℕ
given_numbers size bits (Typed samples) = map (sample_number size bits) samples.now
given_numbers size bits (Stored bytes) = numbers_in size bytes.now

-- how many samples there are
abbrev pub given_count : {S : Type 0} → ℕ → ImageSamples S → ℕ
given_count size (Typed samples) = length samples.now
given_count size (Stored bytes) = length (numbers_in size bytes.now)

-- Each chunk of an image is stored as the bytes of its samples.
pub record StoresBytes (i : OpenImage) : Type 0 where
  pub packed : i.compression ≡ Uncompressed
  pub differs : i.predictor ≡ predictor.None

-- The chunks of such an image are strips, one after another in row order.
pub record IsPlain (i : OpenImage) : Type 0 where
  pub stores : StoresBytes i
  pub order : is_in_order i.form ≡ true

-- bytes can be stored as they are as a chunk: they are whole samples
abbrev pub IsChunkStorable : {S : Type 0} → ℕ → OpenImage → ImageSamples S → Type 0
IsChunkStorable size i (Typed samples) = Unit {0}
IsChunkStorable size i (Stored bytes) = StoresBytes i × (length bytes.now % size ≡ 0)

-- bytes can be stored as they are as a whole image: they are whole samples
abbrev pub AreStorable : {S : Type 0} → ℕ → OpenImage → ImageSamples S → Type 0
AreStorable size i (Typed samples) = Unit {0}
AreStorable size i (Stored bytes) = IsPlain i × (length bytes.now % size ≡ 0)
