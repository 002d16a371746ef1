-- The samples of a page as bytes.
use Rattle.std.specs.Prelude.{ℕ, List, Result, Ok}
use Rattle.tiff_base.specs.declared.error.TiffError.{TiffError}
use Rattle.tiff.specs.Answers.{◌>>=◌}
use Rattle.tiff.specs.Image.{Decoded}
use Rattle.tiff.specs.PixelCalls.{image_of}
use Rattle.tiff.specs.Machine.{Decoding}
use Rattle.tiff.specs.Result.{bytes_of}
use Rattle.tiff_page.specs.PixelCalls as pixels
use Rattle.tiff_page.specs.declared.layout.BufferLayoutPreference.{BufferLayoutPreference}
use Rattle.tiff_pages.specs.Check.{all_bytes}

-- the image of a page, or its first error
abbrev pub page_image : Decoding → Result Decoded TiffError
page_image d = image_of d.bytes d.order d.state.page d.state.limits

-- the little-endian bytes of the samples of a page's image, or its first error
abbrev pub sample_bytes : Decoding → Result (List ℕ) TiffError
sample_bytes d = do
  samples ← page_image d
  Ok (bytes_of samples)

-- the planes of a page's image, as many as the limit allows, with the layout of all planes; or the
-- first error
abbrev pub page_planes : Decoding → Result (BufferLayoutPreference × Decoded) TiffError
page_planes d = pixels.read_image_to_buffer d.bytes d.order d.state.page d.state.limits

-- the little-endian bytes of the samples of all planes, one plane behind the other, or their first
-- error; `LimitsExceeded` if the limit doesn't allow all planes
abbrev pub plane_bytes : Decoding → Result (List ℕ) TiffError
plane_bytes d = do
  image ← page_planes d
  all_bytes image.0.complete_len image.1
