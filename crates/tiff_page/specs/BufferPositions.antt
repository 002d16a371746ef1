-- Which positions of a buffer are written: rows a stride apart, in planes one after another.
use Rattle.std.specs.Prelude.{◌≡◌, ℕ, zero, suc, ◌+◌, ◌-◌, ◌*◌, ◌/◌, ◌%◌, ◌<◌, ◌≤◌, ◌⊎◌, ◌++◌, List, length, replicate, slice_index}
use Rattle.tiff_base.specs.declared.color.ColorType.{ColorType}
use Rattle.tiff_base.specs.declared.tags.ByteOrder.{ByteOrder}
use Rattle.tiff_page.specs.Page.{PageRecord}
use Rattle.tiff_page.specs.Rect.{rect, across, chunks_of_plane}
use Rattle.tiff_page.specs.Layout.{row_bits, row_bytes}
use Rattle.tiff_page.specs.Pixels.{chunk_region, region_byte, image_region}

-- new has at each position with P its value, and at each other position the value of old
abbrev pub Writes : (ℕ → Type 0) → (ℕ → ℕ) → List ℕ → List ℕ → Type 0
Writes P value old new =
    (length new ≡ length old)
    × ((i : ℕ) → i < length old
    → (P i × (slice_index new i ≡ value i)) ⊎ ((P i → ⊥)
    × (slice_index new i ≡ slice_index old i)))

-- a position of a rectangle of `rows` rows from row `top` on, with `len` bytes in each row from
-- byte `left` on
pub record IsIn (stride top rows left len i : ℕ) : Type 0 where
  pub below : top ≤ i / stride
  pub above : i / stride < top + rows
  pub right : left ≤ i % stride
  pub within : i % stride < left + len

-- a value by row and byte of a rectangle
abbrev pub in_rect : (ℕ → ℕ → ℕ) → ℕ → ℕ → ℕ → ℕ → ℕ
in_rect value stride top left i = value (i / stride - top) (i % stride - left)

-- a byte of a row of a chunk, as it is output
abbrev pub chunk_byte : List ℕ → ByteOrder → PageRecord → ColorType → ℕ → ℕ → ℕ → ℕ
chunk_byte file order p color k row b =
    region_byte file order p color (chunk_region p k) (rect p k).plane row b

-- a buffer contains the rows of a chunk, a stride apart, from row `top` and byte `left` on, and is
-- otherwise unchanged
abbrev pub WritesChunk : List ℕ → ByteOrder → PageRecord → ColorType → ℕ → ℕ → ℕ → ℕ → List ℕ
    → List ℕ → Type 0
WritesChunk file order p color k stride top left old new =
    Writes (IsIn stride top (rect p k).height left (row_bytes p color (rect p k).width))
    (in_rect (chunk_byte file order p color k) stride top left) old new

-- a list with zeros after it, up to a length
abbrev pub filled_to : ℕ → List ℕ → List ℕ
filled_to total bytes = bytes ++ replicate (total - length bytes) 0

-- A list grows to hold the rows of a chunk, which end at byte `end`: with zeros after it, up to any
-- length from there on, it is a buffer into which they are written.
abbrev pub GrowsByChunk : List ℕ → ByteOrder → PageRecord → ColorType → ℕ → ℕ → ℕ → ℕ → ℕ → List ℕ
    → List ℕ → Type 0
GrowsByChunk file order p color k stride top left end old new =
    (total : ℕ) → end ≤ total
    → WritesChunk file order p color k stride top left (filled_to total old) (filled_to total new)

-- planes of an image in a buffer
module _ (p : PageRecord) (color : ColorType) (stride : ℕ) where
  abbrev pub plane_of : ℕ → ℕ
  plane_of i = i / stride / p.height

  -- the chunk of a plane to which a position belongs
  abbrev pub chunk_of : ℕ → ℕ
  chunk_of i =
      i / stride % p.height / p.chunk_height * across p + i % stride
      / row_bytes p color p.chunk_width

  -- where the rows of a chunk of a plane begin
  abbrev pub top_of : ℕ → ℕ → ℕ
  top_of plane j = plane * p.height + (rect p (plane * chunks_of_plane p + j)).y

  abbrev pub left_of : ℕ → ℕ → ℕ
  left_of plane j = row_bits p color (rect p (plane * chunks_of_plane p + j)).x / 8

  -- a position of a chunk of a plane
  abbrev pub IsInChunk : ℕ → ℕ → ℕ → Type 0
  IsInChunk plane j i =
      IsIn stride (top_of plane j) (rect p (plane * chunks_of_plane p + j)).height (left_of plane j)
      (row_bytes p color (rect p (plane * chunks_of_plane p + j)).width) i

  pub record IsOfChunk (plane j i : ℕ) : Type 0 where
    pub byte : i % stride < row_bytes p color p.width
    pub of_plane : plane_of i ≡ plane
    pub of_chunk : chunk_of i ≡ j

  -- a position, in the first n planes, of a chunk below the j-th, or of the j-th chunk of a plane
  -- below `plane`
  pub record IsBefore (n j plane i : ℕ) : Type 0 where
    pub byte : i % stride < row_bytes p color p.width
    pub of_plane : plane_of i < n
    pub of_chunk : (chunk_of i < j) ⊎ ((chunk_of i ≡ j) × (plane_of i < plane))

  -- the byte of the image at a position
  abbrev pub image_byte : List ℕ → ByteOrder → ℕ → ℕ
  image_byte file order i =
      region_byte file order p color (image_region p) (plane_of i) (i / stride % p.height)
      (i % stride)

-- The chunk of a plane has room where it goes: its columns in a row, which has some bytes, and its
-- rows above those of the next plane.
pub record HasRoom (p : PageRecord) (color : ColorType) (stride rows top left k : ℕ) : Type 0 where
  pub some : 0 < stride
  pub columns : left + row_bytes p color (rect p k).width ≤ stride
  pub above : top + (rect p k).height ≤ rows

-- a buffer is written twice
pub record WritesTwice (first second : List ℕ → Type 0) : Type 0 where
  pub mid : List ℕ
  pub before : first mid
  pub after : second mid

-- The j-th chunk of each of n planes is written, that of each plane `rows` rows below that of the
-- plane before it.
abbrev pub WritesPlanes : List ℕ → ByteOrder → PageRecord → ColorType → ℕ → ℕ → ℕ → ℕ → ℕ → ℕ
    → List ℕ → List ℕ → Type 0
WritesPlanes file order p color j stride rows top left zero old new = new ≡ old
WritesPlanes file order p color j stride rows top left (suc n) old new =
    WritesTwice (WritesPlanes file order p color j stride rows top left n old)
    (λ mid. WritesChunk file order p color (n * chunks_of_plane p + j) stride (n * rows + top) left
    mid new)

-- a list grows to hold the j-th chunk of each of n planes, which end at byte `end`
abbrev pub GrowsByPlanes : List ℕ → ByteOrder → PageRecord → ColorType → ℕ → ℕ → ℕ → ℕ → ℕ → ℕ → ℕ
    → List ℕ → List ℕ → Type 0
GrowsByPlanes file order p color j stride rows top left n end old new =
    (total : ℕ) → end ≤ total
    → WritesPlanes file order p color j stride rows top left n (filled_to total old)
    (filled_to total new)

-- a position of a chunk in a buffer or of the chunks of further planes after it: n planes of `rows`
-- rows of `len` bytes
pub record IsInPlanes (stride rows len n i : ℕ) : Type 0 where
  pub byte : i % stride < len
  pub of_plane : i / stride / rows < n

abbrev pub IsInUnit : PageRecord → ColorType → ℕ → ℕ → ℕ → ℕ → Type 0
IsInUnit p color stride k n i =
    IsInPlanes stride (rect p k).height (row_bytes p color (rect p k).width) n i

-- the byte at a position of a chunk and the chunks of further planes after it
abbrev pub unit_byte : List ℕ → ByteOrder → PageRecord → ColorType → ℕ → ℕ → ℕ → ℕ
unit_byte file order p color stride k i =
    region_byte file order p color (chunk_region p k)
    ((rect p k).plane + i / stride / (rect p k).height) (i / stride % (rect p k).height)
    (i % stride)
