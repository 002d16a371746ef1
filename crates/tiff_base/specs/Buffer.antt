-- Values as bytes, in a byte order (as in the Rust crate).
use Rattle.std.specs.Prelude.{ℕ, List}
use Rattle.tiff_base.specs.declared.tags.ByteOrder.{ByteOrder}
use Rattle.tiff_base.specs.declared.tags.«Type».{«Type»}

-- a byte order, the type of the values, and their bytes
pub record BufferRecord : Type 0 where
  pub order : ByteOrder
  pub data_type : «Type»
  pub bytes : List ℕ
