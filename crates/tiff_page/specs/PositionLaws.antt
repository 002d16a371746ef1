-- Laws of placing: the rows of a chunk fill its positions of a buffer, and the chunks of an image
-- fill all its positions.
use Rattle.std.specs.Prelude.{◌≡◌, ℕ, ◌+◌, ◌-◌, ◌*◌, ◌<◌, ◌≤◌, ◌⊎◌, List, length, slice_index}
use borrow.Rule.Slice.PartMut.{put_mid}
use Rattle.tiff_base.specs.declared.color.ColorType.{ColorType}
use Rattle.tiff_base.specs.declared.tags.ByteOrder.{ByteOrder}
use Rattle.tiff_page.specs.Page.{PageRecord}
use Rattle.tiff_page.specs.Rect.{rect, chunks_of_plane}
use Rattle.tiff_page.specs.Layout.{row_bytes}
use Rattle.tiff_page.specs.PixelCalls.{bytes_with_region}
use Rattle.tiff_page.specs.Pixels.{image_region, chunk_region}
use Rattle.tiff_page.specs.Laws.{HasSides, HasWholeRows}
use Rattle.tiff_page.specs.BufferPositions.{Writes, IsIn, in_rect, chunk_byte, top_of, left_of, IsInChunk, IsOfChunk, IsBefore, image_byte, IsInUnit, unit_byte}

-- one more row of a rectangle is written
abbrev pub RowWritten : Type 0
RowWritten = (value : ℕ → ℕ → ℕ) (stride top r left len at : ℕ) (bytes old mid : List ℕ)
    → left + len ≤ stride → at ≡ (top + r) * stride + left
    → length bytes ≡ len → ((k : ℕ) → k < len → slice_index bytes k ≡ value r k)
    → at + len ≤ length mid
    → Writes (IsIn stride top r left len) (in_rect value stride top left) old mid
    → Writes (IsIn stride top (r + 1) left len) (in_rect value stride top left) old
    (put_mid at (at + len - at) mid bytes)

-- a chunk of an image is written
abbrev pub ChunkWritten : Type 0
ChunkWritten =
    (file : List ℕ) (order : ByteOrder) (p : PageRecord) (color : ColorType) (stride plane j : ℕ)
    (old new : List ℕ)
    → HasSides p → HasWholeRows p color → row_bytes p color p.width ≤ stride → j < chunks_of_plane p
    → Writes (IsInChunk p color stride plane j)
    (in_rect (chunk_byte file order p color (plane * chunks_of_plane p + j)) stride
    (top_of p color stride plane j) (left_of p color stride plane j)) old new
    → Writes (IsOfChunk p color stride plane j) (image_byte p color stride file order) old new

-- the chunk of the next plane of an image is written
abbrev pub ChunksWritten : Type 0
ChunksWritten =
    (p : PageRecord) (color : ColorType) (stride n j plane : ℕ) (value : ℕ
    → ℕ) (old mid new : List ℕ) → plane < n
    → Writes (IsBefore p color stride n j plane) value old mid
    → Writes (IsOfChunk p color stride plane j) value mid new
    → Writes (IsBefore p color stride n j (plane + 1)) value old new

-- the chunk of all planes is written
abbrev pub PlanesWritten : Type 0
PlanesWritten =
    (p : PageRecord) (color : ColorType) (stride n j : ℕ) (value : ℕ → ℕ) (old new : List ℕ)
    → Writes (IsBefore p color stride n j n) value old new
    → Writes (IsBefore p color stride n (j + 1) 0) value old new

-- no chunk is written
abbrev pub NoneWritten : Type 0
NoneWritten = (p : PageRecord) (color : ColorType) (stride n : ℕ) (value : ℕ → ℕ) (old : List ℕ)
    → Writes (IsBefore p color stride n 0 0) value old old

-- all chunks of an image are written, in all planes
abbrev pub ImageWritten : Type 0
ImageWritten =
    (file : List ℕ) (order : ByteOrder) (p : PageRecord) (color : ColorType) (stride n : ℕ)
    (old new : List ℕ)
    → HasSides p → HasWholeRows p color → row_bytes p color p.width ≤ stride
    → Writes (IsBefore p color stride n (chunks_of_plane p) 0)
    (image_byte p color stride file order) old new
    → new ≡ bytes_with_region file order p color (image_region p) stride n old

-- ---- one chunk, or the chunk of each plane

-- the chunk of one more plane is written
abbrev pub UnitPlaneWritten : Type 0
UnitPlaneWritten =
    (file : List ℕ) (order : ByteOrder) (p : PageRecord) (color : ColorType) (stride k plane : ℕ)
    (old mid new : List ℕ)
    → HasSides p → (plane ≡ 0) ⊎ (k < chunks_of_plane p)
    → Writes (IsInUnit p color stride k plane) (unit_byte file order p color stride k) old mid
    → Writes (IsIn stride (plane * (rect p k).height) (rect p k).height 0
    (row_bytes p color (rect p k).width))
    (in_rect (chunk_byte file order p color (plane * chunks_of_plane p + k)) stride
    (plane * (rect p k).height) 0) mid new
    → Writes (IsInUnit p color stride k (plane + 1)) (unit_byte file order p color stride k) old new

-- the chunk of no plane is written
abbrev pub NoPlaneWritten : Type 0
NoPlaneWritten = (p : PageRecord) (color : ColorType) (stride k : ℕ) (value : ℕ → ℕ) (old : List ℕ)
    → Writes (IsInUnit p color stride k 0) value old old

-- the chunk of all planes is written
abbrev pub UnitWritten : Type 0
UnitWritten =
    (file : List ℕ) (order : ByteOrder) (p : PageRecord) (color : ColorType) (stride k n : ℕ)
    (old new : List ℕ)
    → HasSides p → row_bytes p color (rect p k).width ≤ stride
    → Writes (IsInUnit p color stride k n) (unit_byte file order p color stride k) old new
    → new ≡ bytes_with_region file order p color (chunk_region p k) stride n old
