-- Values as bytes, in a byte order (as in the Rust crate).
use Rattle.std.specs.Prelude.{ℕ, ◌/◌, List, [], length, Result, Ok, Err}
use Rattle.std.specs.List.{refill}
use Rattle.tiff_base.specs.declared.error.TiffError.{TiffError}
use Rattle.tiff_base.specs.declared.tags.ByteOrder.{ByteOrder}
use Rattle.tiff_base.specs.declared.tags.ByteOrder.TheVariants.{LittleEndian}
use Rattle.tiff_base.specs.declared.tags.«Type».{«Type»}
use Rattle.tiff_base.specs.Types.{type_size}
use Rattle.tiff_base.specs.ByteOrders.{convert}
use Rattle.tiff_value.specs.Data.{FieldData}
pub use Rattle.tiff_base.specs.Buffer.{BufferRecord}

-- the number of values; bytes after the last whole value don't count
abbrev pub buffer_count : BufferRecord → ℕ
buffer_count b = length b.bytes / type_size b.data_type

-- no values, in native byte order, which is little-endian
abbrev pub empty_buffer : «Type» → BufferRecord
empty_buffer type = record { order = LittleEndian; data_type = type; bytes = [] }

-- the buffer with the bytes of a field's data, in little-endian byte order
abbrev pub buffer_from : FieldData → BufferRecord
buffer_from d = record { order = LittleEndian; data_type = d.field_type; bytes = d.bytes }

-- the buffer with the bytes of a value, or the error of a value that no field can have
abbrev pub buffer_given : Result FieldData TiffError → Result BufferRecord TiffError
buffer_given (Ok d) = Ok (buffer_from d)
buffer_given (Err e) = Err e

-- the same values in this byte order
abbrev pub in_byte_order : BufferRecord → ByteOrder → BufferRecord
in_byte_order b order =
    record {
      order = order;
      data_type = b.data_type;
      bytes = convert b.data_type b.order b.bytes order;
    }

-- the buffer with the written bytes, in the same byte order and with the same type; the number of
-- bytes stays the same
abbrev pub with_bytes : BufferRecord → List ℕ → BufferRecord
with_bytes b bytes =
    record {
      order = b.order;
      data_type = b.data_type;
      bytes = refill (length b.bytes) b.bytes bytes;
    }
