-- The bytes of a chunk, and how the file stores them (TIFF 6.0 sections 9 and 14).
use Rattle.std.specs.Prelude.{◌≡◌, ℕ, ◌*◌, ◌^◌, List, [], ◌∷◌}
use Rattle.std.specs.List.{flat_map}
use Rattle.tiff_base.specs.Number.{le}
use Rattle.tiff_value.specs.Differences.{differences}
use Rattle.tiff_value.specs.Packed.{ArePackedRows, IsPacked}
use Rattle.tiff_page.specs.Pixels.{stored_samples}
use Rattle.tiff_encode.specs.declared.encoder.settings.Compression.{Compression}
use Rattle.tiff_encode.specs.declared.encoder.settings.Compression.TheVariants.{Uncompressed, Packbits, PackbitsRows}
use Rattle.tiff_encode.specs.Machine.{OpenImage}
use Rattle.tiff_encode.specs.Chunks.{image_page, row_samples}

-- the bytes of a chunk before compression: its samples, as differences in each row if the image has
-- a predictor
unfoldable pub unpacked_chunk : OpenImage → List ℕ → List ℕ
unpacked_chunk i samples =
    let p = image_page i in
    flat_map (le i.size)
    (differences i.predictor (256 ^ i.size) (row_samples p) (stored_samples p) samples)

-- The stored form of rows of `row` bytes each: the bytes themselves; or packed as one list, across
-- rows; or each row packed by itself.
abbrev pub IsCompressed : Compression → ℕ → List ℕ → List ℕ → Type 0
IsCompressed Uncompressed row stored bytes = stored ≡ bytes
IsCompressed Packbits row stored bytes = IsPacked bytes stored
IsCompressed PackbitsRows row stored bytes = ArePackedRows row bytes stored

-- the bytes store a chunk of these samples, by the compression of the image
abbrev pub IsChunkStored : OpenImage → List ℕ → List ℕ → Type 0
IsChunkStored i stored samples =
    IsCompressed i.compression (row_samples (image_page i) * i.size) stored
    (unpacked_chunk i samples)

-- the first of these chunks, each with bytes that can store it
abbrev pub AreStored : OpenImage → List (List ℕ) → List (List ℕ) → Type 0
AreStored i samples [] = Unit {0}
AreStored i [] (stored ∷ others) = ⊥
AreStored i (chunk ∷ more) (stored ∷ others) = IsChunkStored i stored chunk × AreStored i more others
