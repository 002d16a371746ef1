-- The picture of a page (this project's).
use Rattle.std.specs.Prelude.{ℕ, ◌/◌, ◌^◌, ◌==◌, ◌||◌, Bool, List, map, nat_lt, Option, None, Some, Result, Ok, Err, if◌then◌else◌}
use Rattle.std.specs.Bool.{then_some}
use Rattle.tiff_base.specs.declared.color.ColorType.{ColorType}
use Rattle.tiff_base.specs.declared.color.ColorType.TheVariants.{Gray, RGB, RGBA}
use Rattle.tiff_base.specs.declared.error.TiffError.{TiffError}
use Rattle.tiff_base.specs.declared.error.TiffError.TheVariants.{UnsupportedError}
use Rattle.tiff_base.specs.declared.error.TiffUnsupportedError.TheVariants.{UnsupportedColorType, UnsupportedDataType, UnsupportedPlanarConfig}
use Rattle.tiff_base.specs.declared.tags.PlanarConfiguration.TheVariants.{Planar}
use Rattle.tiff.specs.Answers.{◌>>=◌}
use Rattle.tiff.specs.Image.{Decoded}
use Rattle.tiff.specs.Machine.{Decoding}
use Rattle.tiff.specs.Outcome.{colortype, image_buffer_layout}
use Rattle.tiff_page.specs.declared.layout.DecodingSampleType.{DecodingSampleType}
use Rattle.tiff_page.specs.declared.layout.DecodingSampleType.TheVariants as type
use Rattle.tiffpage_lib.specs.Png.{png_of}
use Rattle.tiffpage_lib.specs.Samples.{page_image}
use Rattle.tiffpage_lib.specs.declared.png.PngKind.{PngKind}
use Rattle.tiffpage_lib.specs.declared.png.PngKind.TheVariants.{Gray1, Gray2, Gray4, Gray8, Rgb8, Rgba8}
use Rattle.tiffpage_lib.specs.declared.view.Shape.{Shape}

-- ---- what samples become

-- whether samples of so many bits are numbers of whole bytes
abbrev pub is_whole : ℕ → Bool
is_whole depth = depth == 8 || depth == 16 || depth == 32 || depth == 64

-- what gray samples of so many bits become
abbrev pub gray_kind : ℕ → Option PngKind
gray_kind depth =
    if depth == 1 then Some Gray1 else if depth == 2 then Some Gray2 else if depth == 4
    then Some Gray4 else then_some (is_whole depth) Gray8

-- what samples of a color become
abbrev pub color_kind : ColorType → Option PngKind
color_kind (Gray depth) = gray_kind depth
color_kind (RGB depth) = then_some (is_whole depth) Rgb8
color_kind (RGBA depth) = then_some (is_whole depth) Rgba8
color_kind color = None

-- what samples of a color become, or the error of a color without a picture
abbrev pub kind_or_fault : ColorType → Option PngKind → Result PngKind TiffError
kind_or_fault color None = Err (UnsupportedError (UnsupportedColorType color))
kind_or_fault color (Some kind) = Ok kind

-- all samples of a pixel lie in one plane, else an error
abbrev pub one_plane : ℕ → Result (Unit {0}) TiffError
one_plane planes = if nat_lt 1 planes
    then Err (UnsupportedError (UnsupportedPlanarConfig (Some Planar))) else Ok tt

-- the shape of a picture: its width, its height, and what its samples become; or the first error
abbrev pub shape_of : ℕ × ℕ → ColorType → ℕ → Result Shape TiffError
shape_of sides color planes = do
  kind ← kind_or_fault color (color_kind color)
  _ ← one_plane planes
  Ok (record { width = sides.0; height = sides.1; kind = kind })

-- ---- the picture

-- numbers without their `bits` lowest bits
abbrev pub without_low : ℕ → List ℕ → List ℕ
without_low bits numbers = map (λ n. n / 2 ^ bits) numbers

-- the bytes that a picture shows: of numbers of at most 8 bits as the reader returns them; of wider
-- numbers the highest byte of each; an error for floats and for signed numbers
abbrev pub shown_as : DecodingSampleType → List ℕ → Result (List ℕ) TiffError
shown_as type.U8 numbers = Ok numbers
shown_as type.U16 numbers = Ok (without_low 8 numbers)
shown_as type.U32 numbers = Ok (without_low 24 numbers)
shown_as type.U64 numbers = Ok (without_low 56 numbers)
shown_as _ numbers = Err (UnsupportedError UnsupportedDataType)

-- the file of a picture with this shape, or its first error
abbrev pub drawn : Shape → Decoded → Result (List ℕ) TiffError
drawn shape samples = do
  rows ← shown_as samples.sample_type samples.numbers
  png_of shape.width shape.height shape.kind rows

-- the shape of the picture of a decoder's page
abbrev pub shape_here : Decoding → Result Shape TiffError
shape_here d = do
  color ← (colortype d).answer
  layout ← (image_buffer_layout d).answer
  shape_of (d.state.page.width, d.state.page.height) color layout.planes

-- the picture of a decoder's page as a PNG file, or its first error
abbrev pub picture : Decoding → Result (List ℕ) TiffError
picture d = do
  shape ← shape_here d
  samples ← page_image d
  drawn shape samples
