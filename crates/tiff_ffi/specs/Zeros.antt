-- An image whose samples are zeros.
use Rattle.std.specs.Prelude.{◌≡◌, ℕ, ◌^◌, ◌<◌, true, List, [], length, replicate, Result, Ok}
use Rattle.tiff_base.specs.declared.error.TiffError.{TiffError}
use Rattle.tiff_value.specs.ColorType.{ColorTypeRecord}
use Rattle.tiff_encode.specs.Machine.{FileState, OpenImage}
use Rattle.tiff_encode.specs.Drawn.{IsValidImage}
use Rattle.tiff_encode.specs.Chunks.{all_samples, is_in_order, parts_left}
use Rattle.tiff_encode.specs.Causes.{image_samples}
use Rattle.tiff_encode.specs.Calls.{Offsets, new_image, finish_image}
use Rattle.tiff_encode.specs.Ends.{EndsAsDefined}
use Rattle.tiff_encode.specs.ImageData.{WritesChunks}

-- as many zeros as an image has samples
abbrev pub zeros_of : OpenImage → List ℕ
zeros_of i = replicate (image_samples i) 0

-- An image of strips that has none yet, and fewer than 2^64 samples.
pub record IsNewImage (i : OpenImage) : Type 0 where
  pub none : i.chunks ≡ []
  pub order : is_in_order i.form ≡ true
  pub drawn : IsValidImage i.width i.height (length i.color.bits) (length i.extra) i.form
  pub some : 0 < all_samples i
  pub few : image_samples i < 2 ^ 64

-- Its strips are written, with zeros as samples.
abbrev pub HasZeros : OpenImage → FileState → FileState → OpenImage → Type 0
HasZeros i old new next =
    let done : Result (Unit {0}) TiffError = Ok tt in
    WritesChunks i (parts_left i (zeros_of i)) done old new next

-- An image of zeros is begun, has its strips, and ends.
pub record WritesZeros (color : ColorTypeRecord) (size width height : ℕ) (old new : FileState)
    : Type 0 where
  pub image : OpenImage
  pub mid : FileState
  pub begun : EndsAsDefined (new_image color size width height old) (Ok image) mid
  pub last : OpenImage
  pub then : FileState
  pub strips : HasZeros image mid then last
  pub offsets : Offsets
  pub ends : EndsAsDefined (finish_image last then) (Ok offsets) new
