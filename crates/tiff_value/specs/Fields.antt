-- Values as they are written into a field (this project's).
use Rattle.std.specs.Prelude.{ℕ, ◌*◌, ◌/◌, Bool, List, ◌++◌, length, take, replicate, nat_lt, if◌then◌else◌}
use Rattle.tiff_base.specs.declared.tags.«Type».{«Type»}
use Rattle.tiff_base.specs.declared.tags.FileKind.{FileKind}
use Rattle.tiff_base.specs.declared.tags.FileKind.TheVariants.{Classic, Big}
use Rattle.tiff_base.specs.Field.{Field}
use Rattle.tiff_base.specs.Number.{le}
use Rattle.tiff_base.specs.Types.{type_size}
use Rattle.tiff_value.specs.Buffer.{BufferRecord}
use Rattle.tiff_value.specs.Data.{FieldData, Scalars, u32s, u64s}
use Rattle.tiff_value.specs.FileBytes.{offset_len}

-- offsets as values, in a file of a kind: `LONG`, or `LONG8` in BigTIFF
abbrev pub offset_values : FileKind → List ℕ → Scalars
offset_values Classic ns = u32s ns
offset_values Big ns = u64s ns

-- the values of a type that bytes contain, without the bytes after the last whole value
abbrev pub data_in : «Type» → List ℕ → FieldData
data_in type bytes = record {
  field_type = type;
  count = length bytes / type_size type;
  bytes = take (length bytes / type_size type * type_size type) bytes;
}

abbrev pub buffer_data : BufferRecord → FieldData
buffer_data b = data_in b.data_type b.bytes

-- whether a value doesn't fit into its entry, so that the entry has its offset
abbrev pub is_long : FileKind → FieldData → Bool
is_long kind value = nat_lt (offset_len kind) (length value.bytes)

-- the eight bytes of a value field, filled with zeros at the end
abbrev pub filled_field : List ℕ → List ℕ
filled_field bytes = take 8 (bytes ++ replicate 8 0)

-- the field of a value; if its bytes don't fit into the entry, they are appended at `offset`
abbrev pub field_at : FileKind → ℕ → FieldData → Field
field_at kind offset value = record {
  field_type = value.field_type;
  count = value.count;
  value = if is_long kind value then le 8 offset else filled_field value.bytes;
}
