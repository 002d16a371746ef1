-- Samples of unsigned bytes that are set to 0.
use Rattle.std.specs.Prelude.{ℕ, ◌-◌, List, ◌++◌, length, take, replicate}
use Rattle.tiff_page.specs.declared.layout.DecodingSampleType.{DecodingSampleType}
use Rattle.tiff_page.specs.declared.layout.DecodingSampleType.TheVariants.{U8}
use Rattle.tiff.specs.Image.{Decoded}

-- numbers with zeros from the index `start` on, if they are unsigned bytes; other numbers stay
abbrev pub cleared_numbers : DecodingSampleType → ℕ → List ℕ → List ℕ
cleared_numbers U8 start numbers = take start numbers ++ replicate (length numbers - start) 0
cleared_numbers type start numbers = numbers

-- an image with such numbers
abbrev pub cleared_from : ℕ → Decoded → Decoded
cleared_from start image =
    record image { numbers = cleared_numbers image.sample_type start image.numbers }
