-- Which byte of which chunk each byte of an image's planes is (this project's).
use Rattle.std.specs.Prelude.{◌≡◌, ℕ, ◌+◌, ◌*◌, ◌/◌, ◌%◌, ◌<◌, ◌↔◌}
use Rattle.tiff_page.specs.Page.{PageRecord}
use Rattle.tiff_page.specs.Rect.{rect, across, chunks_of_plane}
use Rattle.tiff_page.specs.Layout.{LayoutRecord, row_bytes}
use Rattle.tiff_page.specs.Laws.{HasSides}
use Rattle.tiff_laws.specs.Whole.{IsLayout, chunk_row, at_image}

-- where a byte of an image's planes is: its plane, the line of the plane, and its column in the
-- line
abbrev pub plane_of_byte : LayoutRecord → ℕ → ℕ
plane_of_byte layout at = at / layout.plane_stride

abbrev pub line_of_byte : LayoutRecord → ℕ → ℕ
line_of_byte layout at = at % layout.plane_stride / layout.row_bytes

abbrev pub column_of_byte : LayoutRecord → ℕ → ℕ
column_of_byte layout at = at % layout.row_bytes

-- the number of bytes of a row of a chunk that no edge of the image cuts
abbrev pub full_row : PageRecord → LayoutRecord → ℕ
full_row p layout = row_bytes p layout.color p.chunk_width

-- the byte of a chunk at a position: the index of the chunk in all planes, the row of the chunk,
-- and the byte of the row
abbrev pub chunk_of_byte : PageRecord → LayoutRecord → ℕ → ℕ
chunk_of_byte p layout at =
    plane_of_byte layout at * chunks_of_plane p
    + (line_of_byte layout at / p.chunk_height * across p + column_of_byte layout at
    / full_row p layout)

abbrev pub row_of_byte : PageRecord → LayoutRecord → ℕ → ℕ
row_of_byte p layout at = line_of_byte layout at % p.chunk_height

abbrev pub byte_in_row : PageRecord → LayoutRecord → ℕ → ℕ
byte_in_row p layout at = column_of_byte layout at % full_row p layout

-- A byte of a row of a chunk of one of several planes is at this position in the planes.
pub record IsByteAt (p : PageRecord) (layout : LayoutRecord) (planes plane chunk row byte at : ℕ)
    : Type 0 where
  pub used : plane < planes
  pub in_plane : (rect p chunk).plane ≡ plane
  pub in_chunk : row < (rect p chunk).height
  pub in_row : byte < chunk_row p layout chunk
  pub here : at_image p layout chunk row byte ≡ at

-- This position is in the planes, and contains this byte of this row of this chunk of this plane.
pub record IsFoundAt (p : PageRecord) (layout : LayoutRecord) (planes plane chunk row byte at : ℕ)
    : Type 0 where
  pub within : at < planes * layout.plane_stride
  pub its_plane : plane_of_byte layout at ≡ plane
  pub its_chunk : chunk_of_byte p layout at ≡ chunk
  pub its_row : row_of_byte p layout at ≡ row
  pub its_byte : byte_in_row p layout at ≡ byte

-- each position of several planes contains one byte of one row of one chunk of one plane, and each
-- of these bytes has one position
abbrev pub OneByte : Type 0
OneByte = (p : PageRecord) (layout : LayoutRecord) (planes plane chunk row byte at : ℕ) → HasSides p
    → IsLayout p layout
    → IsFoundAt p layout planes plane chunk row byte at ↔ IsByteAt p layout planes plane chunk row
    byte at
