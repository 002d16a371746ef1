-- Pages whose rows are readable: the facts of a page that passed the checks of its form.
use Rattle.std.specs.Prelude.{◌≡◌, ℕ, ◌/◌, ◌<◌, ◌⊎◌, Ok}
use Rattle.tiff_base.specs.declared.color.ColorType.{ColorType}
use Rattle.tiff_base.specs.declared.tags.Predictor.TheVariants as predictor
use Rattle.tiff_ifd.specs.declared.limits.Limits.{Limits}
use Rattle.tiff_page.specs.Page.{PageRecord}
use Rattle.tiff_page.specs.Layout.{color_of, samples_in_chunk}
use Rattle.tiff_page.specs.Pixels.{stored_samples}
use Rattle.tiff_page.specs.PixelFault.{form_fault}
use Rattle.tiff_page.specs.Row.{IsSize}
use Rattle.tiff_page.specs.OutputRow.{StoresAllShown}

-- samples of one, two, four or eight bytes, or of fewer than 8 bits; of the latter the output
-- contains all, and none is predicted
pub record IsRead (p : PageRecord) (color : ColorType) : Type 0 where
  pub stored : StoresAllShown p color
  pub size : (p.depth < 8) ⊎ IsSize (p.depth / 8)
  pub unpredicted : p.depth < 8 → p.predictor ≡ predictor.None
  pub all : p.depth < 8 → samples_in_chunk p.planar color ≡ stored_samples p

-- a page that passes the checks of its form is readable
abbrev pub FormRead : Type 0
FormRead = (p : PageRecord) (limits : Limits) (color : ColorType) (i : ℕ) → 0 < p.samples
    → color_of p ≡ Ok color
    → form_fault p limits color i ≡ Ok tt → IsRead p color
