-- Samples as the decoder returns them.
use Rattle.std.specs.Prelude.{ℕ, List}
use Rattle.tiff_page.specs.declared.layout.DecodingSampleType.{DecodingSampleType}
use Rattle.tiff_page.specs.Layout.{size_of}
use Rattle.tiff_page.specs.Pixels.{numbers_in}

-- decoded samples: their number type, and the bits of each
pub record Decoded : Type 0 where
  pub sample_type : DecodingSampleType
  pub numbers : List ℕ

abbrev pub decoded_samples : DecodingSampleType → List ℕ → Decoded
decoded_samples type bytes =
    record { sample_type = type; numbers = numbers_in (size_of type) bytes }
