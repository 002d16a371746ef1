-- What a color defines for a pixel.
use Rattle.std.specs.Prelude.{ℕ}
use Rattle.tiff_base.specs.declared.color.ColorType.{ColorType}
use Rattle.tiff_base.specs.declared.color.ColorType.TheVariants.{Gray, RGB, Palette, GrayA, RGBA, CMYK, CMYKA, YCbCr, Lab, Multiband}

-- the number of bits of each sample
abbrev pub bit_depth : ColorType → ℕ
bit_depth (Gray n) = n
bit_depth (RGB n) = n
bit_depth (Palette n) = n
bit_depth (GrayA n) = n
bit_depth (RGBA n) = n
bit_depth (CMYK n) = n
bit_depth (CMYKA n) = n
bit_depth (YCbCr n) = n
bit_depth (Lab n) = n
bit_depth (Multiband n samples) = n

-- the number of samples that a pixel shows
abbrev pub num_samples : ColorType → ℕ
num_samples (Gray n) = 1
num_samples (RGB n) = 3
num_samples (Palette n) = 1
num_samples (GrayA n) = 2
num_samples (RGBA n) = 4
num_samples (CMYK n) = 4
num_samples (CMYKA n) = 5
num_samples (YCbCr n) = 3
num_samples (Lab n) = 3
num_samples (Multiband n samples) = samples
