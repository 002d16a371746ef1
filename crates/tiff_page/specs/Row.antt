-- How the numbers of a row change in place, and their bytes.
use Rattle.std.specs.Prelude.{◌≡◌, ℕ, ◌+◌, ◌-◌, ◌*◌, ◌/◌, ◌%◌, ◌^◌, ◌<◌, ◌≤◌, ◌⊎◌, List, length, slice_index}
use Rattle.tiff_base.specs.declared.tags.ByteOrder.TheVariants.{LittleEndian, BigEndian}
use Rattle.tiff_base.specs.SourceAndSink.{AreOctets}
use Rattle.tiff_page.specs.Pixels.{row_number}

-- how many bytes a number has
abbrev pub IsSize : ℕ → Type 0
IsSize size = (size ≡ 1) ⊎ ((size ≡ 2) ⊎ ((size ≡ 4) ⊎ (size ≡ 8)))

-- Each whole number of a row that held old became, in little-endian order, its value. The bytes
-- after the last whole number are unchanged.
pub record RowReplaced (size : ℕ) (value : ℕ → ℕ) (old new : List ℕ) : Type 0 where
  pub numbers : (k : ℕ) → (k + 1) * size ≤ length old → row_number LittleEndian size new k ≡ value k
  pub behind : (i : ℕ) → length old / size * size ≤ i → slice_index new i ≡ slice_index old i

-- The number at one position was added to the number at another, and no other byte changed.
pub record AddsNumber (size : ℕ) (old : List ℕ) (from to : ℕ) (new : List ℕ) : Type 0 where
  pub sum : row_number LittleEndian size new to
      ≡ (row_number LittleEndian size old from + row_number LittleEndian size old to) % 256 ^ size
  pub below : (i : ℕ) → i < to * size → slice_index new i ≡ slice_index old i
  pub above : (i : ℕ) → to * size + size ≤ i → slice_index new i ≡ slice_index old i

-- The little-endian number at one position became the big-endian number of a row at that position,
-- and no other byte changed.
pub record TurnsNumber (size : ℕ) (row : List ℕ) (at : ℕ) (old new : List ℕ) : Type 0 where
  pub turned : row_number LittleEndian size new at ≡ row_number BigEndian size row at
  pub below : (i : ℕ) → i < at * size → slice_index new i ≡ slice_index old i
  pub above : (i : ℕ) → at * size + size ≤ i → slice_index new i ≡ slice_index old i

-- the whole big-endian numbers of a row, in little-endian order
abbrev pub SwapsBytes : ℕ → List ℕ → List ℕ → Type 0
SwapsBytes size row new = (k : ℕ) → (k + 1) * size ≤ length row
    → row_number LittleEndian size new k ≡ row_number BigEndian size row k

-- ---- laws of rows

-- If the bytes of a row are complemented, each number of the row is complemented: it is the
-- greatest number of its bytes, less the number before.
abbrev pub ComplementsInvert : Type 0
ComplementsInvert = (size : ℕ) (old new : List ℕ) (k : ℕ) → IsSize size → AreOctets old
    → ((i : ℕ) → i < length old → slice_index new i ≡ 255 - slice_index old i)
    → (k + 1) * size ≤ length old
    → row_number LittleEndian size new k ≡ 256 ^ size - 1 - row_number LittleEndian size old k

-- A byte of a row of little-endian numbers is that byte of its number.
abbrev pub BytesOfNumbers : Type 0
BytesOfNumbers = (size : ℕ) (row : List ℕ) (k j : ℕ) → IsSize size → AreOctets row → j < size
    → slice_index row (k * size + j) ≡ row_number LittleEndian size row k / 256 ^ j % 256
