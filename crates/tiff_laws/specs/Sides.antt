-- A page that the tags define has sides and samples (this project's).
use Rattle.std.specs.Prelude.{◌≡◌, ◌<◌, Ok}
use Rattle.tiff_ifd.specs.TagLookup.{TagLookup}
use Rattle.tiff_page.specs.Page.{PageRecord}
use Rattle.tiff_page.specs.Checks.{method_in, page_of}
use Rattle.tiff_page.specs.Laws.{HasSides}

-- a pixel has at least one sample, and a sample at least one bit
pub record HasSamples (p : PageRecord) : Type 0 where
  pub sampled : 0 < p.samples
  pub has_bits : 0 < p.depth

-- the page that the tags define has sides, and its pixels have samples
abbrev pub PageHasSides : Type 0
PageHasSides = (look : TagLookup) (p : PageRecord) → page_of look ≡ Ok p → HasSides p × HasSamples p

-- the page has the compression method that the tags define
abbrev pub PageHasMethod : Type 0
PageHasMethod = (look : TagLookup) (p : PageRecord) → page_of look ≡ Ok p
    → method_in look ≡ Ok p.method
