-- An image that was read is made of the chunks of its page, by the laws of `tiff_laws`.
use Rattle.std.specs.Prelude.{ℕ, List, length}
use Rattle.tiff.specs.Machine.{Decoding}
use Rattle.tiff_page.specs.Layout.{LayoutRecord}
use Rattle.tiff_laws.specs.Whole.{HasRoom, IsMadeOfChunks}

-- A slice was made of the chunks of the page, in each plane that fits into the slice; at least one
-- plane does.
pub record IsImageOfChunks (d : Decoding) (buf made : List ℕ) : Type 0 where
  pub layout : LayoutRecord
  pub room : HasRoom d.state.page layout (length buf)
  pub of_chunks : IsMadeOfChunks d layout buf made
