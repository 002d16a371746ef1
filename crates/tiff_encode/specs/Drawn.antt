-- The properties of an open image (this project's).
use Rattle.std.specs.Prelude.{◌≡◌, ℕ, ◌+◌, ◌^◌, ◌<◌, true, []}
use Rattle.tiff_base.specs.declared.color.ChunkType.TheVariants.{Strip}
use Rattle.tiff_base.specs.declared.tags.Predictor.TheVariants as predictor
use Rattle.tiff_value.specs.ColorType.{is_packed, columns_of}
use Rattle.tiff_encode.specs.Machine.{ChunkLayout, OpenImage}

-- a width or a height: a number of 32 bits that isn't 0
abbrev pub IsSide : ℕ → Type 0
IsSide n = (0 < n) × (n < 2 ^ 32)

-- the layout of the chunks of an image of a width: strips are as wide as the image
pub record IsForm (width : ℕ) (form : ChunkLayout) : Type 0 where
  pub wide : IsSide form.chunk_width
  pub high : IsSide form.chunk_height
  pub strips : form.chunk_type ≡ Strip → form.chunk_width ≡ width

-- an image of a width and a height, with a number of samples and of extra samples per pixel
pub record IsValidImage (width height samples extra : ℕ) (form : ChunkLayout) : Type 0 where
  pub wide : IsSide width
  pub high : IsSide height
  pub few : samples + extra < 2 ^ 16
  pub cut : IsForm width form

-- The columns of an image hold its pixels. If a column holds several, the image has strips, and
-- neither extra samples nor a predictor.
pub record HoldsPixels (i : OpenImage) : Type 0 where
  pub some : IsSide i.pixels
  pub columns : i.width ≡ columns_of i.color i.pixels
  pub plain : is_packed i.color ≡ true
      → (i.form.chunk_type ≡ Strip) × ((i.extra ≡ []) × (i.predictor ≡ predictor.None))
