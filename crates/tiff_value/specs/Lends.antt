-- The bytes of values, lent for writing.
use Rattle.std.specs.Prelude.{ℕ, List}
use Rattle.std.specs.Borrow.{Array, Fml, Lends, MutBor, u8}
use Rattle.tiff_value.specs.Buffer.{BufferRecord, with_bytes}
use Rattle.tiff_value.specs.contracts.buffer.ValueBuffer.{the_row}

-- when the borrow ends, the buffer has the last written bytes
abbrev pub lends_bytes : MutBor BufferRecord → MutBor (List ℕ) → Fml
lends_bytes b r = Lends the_row (Array u8 0) b r (with_bytes b.now)
