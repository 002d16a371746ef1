-- Some rows of a chunk, and the rows of an image that the chunks side by side have.
use Rattle.std.specs.Prelude.{◌≡◌, ℕ, ◌+◌, ◌-◌, ◌*◌, ◌%◌, ◌^◌, ◌<◌, ◌≤◌, Bool, List, length, nat_lt, slice_index, Result, Ok}
use Rattle.tiff_base.specs.declared.color.ColorType.{ColorType}
use Rattle.tiff_base.specs.declared.error.TiffError.{TiffError}
use Rattle.tiff_base.specs.declared.error.TiffError.TheVariants.{IoError}
use Rattle.tiff_base.specs.declared.io.IoKind.TheVariants.{UnexpectedEof}
use Rattle.tiff_base.specs.declared.tags.ByteOrder.{ByteOrder}
use Rattle.tiff_ifd.specs.declared.limits.Limits.{Limits}
use Rattle.tiff_page.specs.declared.layout.PlaneLayout.{PlaneLayout}
use Rattle.tiff_page.specs.Page.{PageRecord}
use Rattle.tiff_page.specs.PageView as view
use Rattle.tiff_page.specs.PixelFault.{each_below, fail_if, form_fault}
use Rattle.tiff_page.specs.Rect.{rect, across, chunks_of_plane}
use Rattle.tiff_page.specs.Layout.{layout_of, row_bytes}
use Rattle.tiff_page.specs.Pixels.{chunk_data, is_short, stored_row_bytes, needed_of_row}
use Rattle.tiff_page.specs.BufferPositions.{Writes, IsIn, in_rect, chunk_byte, image_byte, filled_to}

-- the data of a chunk are too few for its first n rows
abbrev pub rows_short : List ℕ → ByteOrder → PageRecord → ColorType → ℕ → ℕ → Bool
rows_short file order p color i n =
    nat_lt (length (chunk_data file order p i))
    ((n - 1) * stored_row_bytes p + needed_of_row p color (row_bytes p color (rect p i).width))

-- A buffer contains the rows of a chunk from row `from` on, below row `to`, and is otherwise
-- unchanged. The first of them is in row `top` of the buffer, from byte `left` on.
abbrev pub WritesRows : List ℕ → ByteOrder → PageRecord → ColorType → ℕ → ℕ → ℕ → ℕ → ℕ → ℕ
    → List ℕ → List ℕ → Type 0
WritesRows file order p color k stride top left from to old new =
    Writes (IsIn stride top (to - from) left (row_bytes p color (rect p k).width))
    (in_rect (λ r b. chunk_byte file order p color k (from + r) b) stride top left) old new

-- bytes are those of the first plane of an image, from row `from` on
abbrev pub AreImageRows : List ℕ → ByteOrder → PageRecord → ColorType → ℕ → ℕ → List ℕ → Type 0
AreImageRows file order p color stride from rows = (i : ℕ) → i < length rows
    → slice_index rows i ≡ image_byte p color stride file order (from * stride + i)

-- a buffer contains `n` rows of the first plane of an image, from row `from` on, in its own rows
-- from row `top` on, and is otherwise unchanged
abbrev pub PutsImageRows : List ℕ → ByteOrder → PageRecord → ColorType → ℕ → ℕ → ℕ → ℕ → List ℕ
    → List ℕ → Type 0
PutsImageRows file order p color stride from n top old new =
    Writes (IsIn stride top n 0 (row_bytes p color p.width))
    (in_rect (λ r b. image_byte p color stride file order ((from + r) * stride + b)) stride top 0)
    old new

-- a buffer contains the rows of the first plane of an image from row `from` on, below row `to`, and
-- is otherwise unchanged
abbrev pub WritesImageRows : List ℕ → ByteOrder → PageRecord → ColorType → ℕ → ℕ → ℕ → List ℕ
    → List ℕ → Type 0
WritesImageRows file order p color stride from to old new =
    Writes (IsIn stride from (to - from) 0 (row_bytes p color p.width))
    (image_byte p color stride file order) old new

-- a list grows to hold these rows, which end at byte `end`
abbrev pub GrowsByRows : List ℕ → ByteOrder → PageRecord → ColorType → ℕ → ℕ → ℕ → ℕ → List ℕ
    → List ℕ → Type 0
GrowsByRows file order p color stride from to end old new =
    (total : ℕ) → end ≤ total
    → WritesImageRows file order p color stride from to (filled_to total old) (filled_to total new)

-- the first error of the chunks side by side that begin with one, of too few data for the rows
-- below row `to` of each, or for all rows
abbrev pub rows_fault : List ℕ → ByteOrder → PageRecord → ColorType → ℕ → ℕ
    → Result (Unit {0}) TiffError
rows_fault file order p color first to =
    each_below
    (λ column. fail_if (rows_short file order p color (first + column) to) (IoError UnexpectedEof))
    (across p)

abbrev pub tiles_fault : List ℕ → ByteOrder → PageRecord → ColorType → ℕ
    → Result (Unit {0}) TiffError
tiles_fault file order p color first =
    each_below
    (λ column. fail_if (is_short file order p color (first + column)) (IoError UnexpectedEof))
    (across p)

-- The chunks side by side in an image that begin with one are read some rows of each at a time:
-- it is the first of them, one plane is read, they all pass the checks of their form, and a place
-- in a chunk's data is a number below 2^64.
pub record AreBanded (p : PageRecord) (limits : Limits) (color : ColorType) (planes first : ℕ)
    : Type 0 where
  pub one : planes ≡ 1
  pub leftmost : first % across p ≡ 0
  pub formed : (column : ℕ) → column < across p → form_fault p limits color (first + column) ≡ Ok tt
  pub few : stored_row_bytes p * p.chunk_height < 2 ^ 64

-- The rows from `from` on, below row `to`, of the chunks side by side that begin with one of the
-- first plane, which are read some rows of each at a time.
pub record AreTileRows (p : PageRecord) (limits : Limits) (layout : PlaneLayout) (first from to : ℕ)
    : Type 0 where
  pub laid : layout_of p p.width p.height ≡ Ok (view.layout layout)
  pub banded : AreBanded p limits layout.color 1 first
  pub chunk : first < chunks_of_plane p
  pub some_rows : from < to
  pub within : to ≤ (rect p first).height
