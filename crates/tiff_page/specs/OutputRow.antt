-- The bytes of an output row of a chunk, from the stored bytes of the row.
use Rattle.std.specs.Prelude.{◌≡◌, ℕ, ◌*◌, ◌/◌, ◌%◌, ◌^◌, ◌<◌, ◌≤◌, ◌⊎◌, Bool, false, if◌then◌else◌, nat_lt, List, length, slice_index}
use Rattle.tiff_base.specs.declared.color.ColorType.{ColorType}
use Rattle.tiff_base.specs.declared.tags.ByteOrder.{ByteOrder}
use Rattle.tiff_base.specs.declared.tags.ByteOrder.TheVariants.{LittleEndian, BigEndian}
use Rattle.tiff_base.specs.SourceAndSink.{bytes_at}
use Rattle.tiff_page.specs.Page.{PageRecord}
use Rattle.tiff_page.specs.Counts.{all_chunks}
use Rattle.tiff_page.specs.Rect.{rect}
use Rattle.tiff_page.specs.Layout.{row_bytes, samples_in_chunk}
use Rattle.tiff_page.specs.Laws.{HasSides}
use Rattle.tiff_page.specs.Pixels.{stored_samples, stored_row_bytes, chunk_data, needed_of_row, number_size, in_row, row_number, number_of_row, shown_number}
use Rattle.tiff_page.specs.Row.{RowReplaced}
use Rattle.tiff_page.specs.BufferPositions.{chunk_byte}

-- a stored row of a chunk
module _ (order : ByteOrder) (p : PageRecord) (row : List ℕ) (color : ColorType) where
  -- number n of the numbers that the color contains
  abbrev pub handed_number : ℕ → ℕ
  handed_number n =
      shown_number p.interpretation (2 ^ p.depth)
      (number_of_row order p row
      (in_row p (n / samples_in_chunk p.planar color)
      (n % samples_in_chunk p.planar color)))

  -- byte b of the output row: the bytes of a number, the least significant first; at depths below 8
  -- the stored byte
  abbrev pub handed_byte : ℕ → ℕ
  handed_byte b =
      if nat_lt p.depth 8 then shown_number p.interpretation 256 (slice_index row b)
      else handed_number (b / number_size p) / 256 ^ (b % number_size p) % 256

-- whether numbers are byte-swapped to become little-endian: those of more than one byte in a
-- big-endian file
abbrev pub needs_swap : ByteOrder → ℕ → Bool
needs_swap LittleEndian depth = false
needs_swap BigEndian depth = nat_lt 8 depth

-- A list holds the little-endian numbers of the bytes of a row; at depths below 8, the bytes
-- themselves.
pub record HoldsNumbersOf (order : ByteOrder) (p : PageRecord) (row held : List ℕ) : Type 0 where
  pub same_length : length held ≡ length row
  pub numbers : 8 ≤ p.depth
      → RowReplaced (p.depth / 8) (row_number order (p.depth / 8) row) row held
  pub packed : p.depth < 8 → held ≡ row

-- a page of whole bytes or of depths below 8, whose chunks store all samples of the color
pub record StoresAllShown (p : PageRecord) (color : ColorType) : Type 0 where
  pub depth : (p.depth < 8) ⊎ (p.depth ≡ p.depth / 8 * 8)
  pub shows : 0 < samples_in_chunk p.planar color
  pub stores : samples_in_chunk p.planar color ≤ stored_samples p

-- The bytes of an output row of a chunk depend only on the bytes that are read of the stored row.
abbrev pub RowHanded : Type 0
RowHanded = (file : List ℕ) (order : ByteOrder) (p : PageRecord) (color : ColorType) (k r b : ℕ)
    → HasSides p → StoresAllShown p color → k < all_chunks p
    → r < (rect p k).height → b < row_bytes p color (rect p k).width
    → chunk_byte file order p color k r b
    ≡ handed_byte order p
    (bytes_at (chunk_data file order p k) (r * stored_row_bytes p)
    (needed_of_row p color (row_bytes p color (rect p k).width))) color b
