-- What is read of a row of a chunk.
use Rattle.std.specs.Prelude.{◌≡◌, ℕ, ◌<◌, ◌≤◌, List, length, take, drop, slice_index, Result, Ok, Err}
use Rattle.tiff_base.specs.declared.color.ColorType.{ColorType}
use Rattle.tiff_base.specs.declared.error.TiffError.{TiffError}
use Rattle.tiff_base.specs.declared.tags.ByteOrder.{ByteOrder}
use Rattle.tiff_base.specs.Answers.{IsCause}
use Rattle.tiff_page.specs.declared.chunk_data.ChunkCursor.{ChunkCursor}
use Rattle.tiff_page.specs.NumberBytes.{IsPut}
use Rattle.tiff_page.specs.Page.{PageRecord}
use Rattle.tiff_page.specs.Pixels.{needed_of_row}
use Rattle.tiff_page.specs.OutputRow.{handed_byte}
use Rattle.tiff_page.specs.ChunkData.{bytes_left, IsTooShort}

-- A row was read and output, and `rest` is what is left after it.
pub record TakesRow (order : ByteOrder) (p : PageRecord) (color : ColorType)
    (left rest out : List ℕ) : Type 0 where
  pub enough : needed_of_row p color (length out) ≤ length left
  pub behind : rest ≡ drop (needed_of_row p color (length out)) left
  pub handed : (b : ℕ) → b < length out
      → slice_index out b ≡ handed_byte order p (take (needed_of_row p color (length out)) left)
      color b

-- the result of a call that reads a row into a buffer
abbrev pub RowRead : List ℕ → ByteOrder → PageRecord → ColorType → ChunkCursor → ChunkCursor
    → Type 0 → List ℕ → Result (Unit {0}) TiffError → Type 0
RowRead file order p color old new failed out (Ok done) =
    TakesRow order p color (bytes_left file old) (bytes_left file new) out
RowRead file order p color old new failed out (Err e) =
    IsCause (Unit {0}) failed e
    (IsTooShort (bytes_left file old) (needed_of_row p color (length out)) e)

-- A row was read and output, and its bytes were written at a position among the bytes of a list.
pub record PutsRow (order : ByteOrder) (p : PageRecord) (color : ColorType) (left rest : List ℕ)
    (at len : ℕ) (old new : List ℕ) : Type 0 where
  pub row : List ℕ
  pub all : length row ≡ len
  pub takes : TakesRow order p color left rest row
  pub put : IsPut at row old new

-- The result of a call that reads a row of `len` bytes into the bytes of a list, `before` the call
-- and `after` it.
abbrev pub RowPut : List ℕ → ByteOrder → PageRecord → ColorType → ChunkCursor → ChunkCursor → Type 0
    → ℕ → ℕ → List ℕ → List ℕ → Result (Unit {0}) TiffError → Type 0
RowPut file order p color old new failed at len before after (Ok done) =
    PutsRow order p color (bytes_left file old) (bytes_left file new) at len before after
RowPut file order p color old new failed at len before after (Err e) =
    IsCause (Unit {0}) failed e (IsTooShort (bytes_left file old) (needed_of_row p color len) e)
