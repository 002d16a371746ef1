-- Rows of a chunk that lie together.
use Rattle.std.specs.Prelude.{◌≡◌, ℕ, false}
use Rattle.tiff_base.specs.declared.color.ColorType.{ColorType}
use Rattle.tiff_base.specs.declared.tags.Predictor.TheVariants as predictor
use Rattle.tiff_page.specs.Page.{PageRecord}
use Rattle.tiff_page.specs.Pixels.{stored_row_bytes, needs_whole_rows}

-- The rows of a chunk lie together: each stored row has `len` bytes, which are all output; the rows
-- follow one another in the buffer from its left edge; and no number depends on others of its row.
pub record LieTogether (p : PageRecord) (color : ColorType) (len left stride : ℕ) : Type 0 where
  pub from_edge : left ≡ 0
  pub in_buffer : stride ≡ len
  pub in_data : stored_row_bytes p ≡ len
  pub shown : needs_whole_rows p color ≡ false
  pub alone : p.predictor ≡ predictor.None
