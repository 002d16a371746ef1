-- A value that is written into a field, in each of the forms in which a caller gives it.
use Rattle.std.specs.Prelude.{ℕ, List, Result}
use Rattle.tiff_base.specs.declared.error.TiffError.{TiffError}
use Rattle.tiff_base.specs.declared.tags.Tag.{Tag}
use Rattle.tiff_base.specs.declared.tags.«Type».{«Type»}
use Rattle.tiff_base.specs.Field.{Field}
use Rattle.tiff_value.specs.Buffer.{BufferRecord}
use Rattle.tiff_value.specs.Data.{FieldData}
use Rattle.tiff_encode.specs.Machine.{OpenDirectory, WriteCall, ◌>>=◌, gives}
use Rattle.tiff_encode.specs.Calls.{with_field, write_entry, write_entry_buf, write_entry_bytes, write_tag, write_tag_buf}

-- a value: its data, or a buffer, or the bytes of an entry
pub data Value : Type 0 where
  Given : Result FieldData TiffError → Value
  Lent : BufferRecord → Value
  Bytes : «Type» → List ℕ → Value

-- the call that writes a value, and the call that then sets the field in a directory
abbrev pub entry_of : Value → WriteCall Field
entry_of (Given value) = write_entry value
entry_of (Lent b) = write_entry_buf b
entry_of (Bytes type bytes) = write_entry_bytes type bytes

abbrev pub tag_of : OpenDirectory → Tag → Value → WriteCall OpenDirectory
tag_of d t (Given value) = write_tag d t value
tag_of d t (Lent b) = write_tag_buf d t b
tag_of d t (Bytes type bytes) =
    write_entry_bytes type bytes >>= (λ field. gives (with_field d t field))
