-- The entries of a directory, as C gets them.
use Rattle.std.specs.Prelude.{ℕ, Bool, List, length, map, if◌then◌else◌, nat_le, Result, Ok}
use Rattle.std.specs.FinMap.{entries}
use Rattle.std.specs.Int.{byte_len}
use Rattle.tiff_base.specs.declared.error.TiffError.{TiffError}
use Rattle.tiff_base.specs.declared.tags.ByteOrder.{ByteOrder}
use Rattle.tiff_base.specs.declared.tags.FileKind.{FileKind}
use Rattle.tiff_base.specs.Answers.{◌>>=◌}
use Rattle.tiff_base.specs.Directory.{offset_width}
use Rattle.tiff_base.specs.Field.{Field, DirectoryRecord}
use Rattle.tiff_base.specs.Header.{header_at}
use Rattle.tiff_base.specs.Tags.{type_number}
use Rattle.tiff_base.specs.FieldBytes.{field_len, field_offset}
use Rattle.tiff_ffi.specs.declared.entries.TagEntry.{TagEntry}
use Rattle.tiff_ffi.specs.Calls.{tags_at_page}
use Rattle.tiff_ffi.specs.List.{filled}

-- whether the values of a field are in its value field (TIFF 6.0 section 2; BigTIFF)
abbrev pub is_in_place : FileKind → Field → Bool
is_in_place kind f = nat_le (field_len f) (byte_len (offset_width kind))

-- 1 for true, 0 for false
abbrev pub flag : Bool → ℕ
flag b = if b then 1 else 0

-- the offset of the values of a field that are elsewhere in the file; 0 for those in the value
-- field
abbrev pub values_at : FileKind → ByteOrder → Field → ℕ
values_at kind order f = if is_in_place kind f then 0 else field_offset kind order f

-- an entry by its numbers
abbrev pub entry_told : FileKind → ByteOrder → ℕ × Field → TagEntry
entry_told kind order e = record {
  count = e.1.count;
  offset = values_at kind order e.1;
  number = e.0;
  kind = type_number e.1.field_type;
  in_place = flag (is_in_place kind e.1);
}

-- the entries of a directory, in the order of their tags
abbrev pub entries_told : FileKind → ByteOrder → DirectoryRecord → List TagEntry
entries_told kind order directory = map (entry_told kind order) (entries directory.entries)

-- how many items there are, and a slice with as many of them in front as fit
abbrev pub counted : List TagEntry → List TagEntry → Result (ℕ × List TagEntry) TiffError
counted told slice = Ok (length told, filled told slice)

-- how many entries the directory of a page has, and a slice with as many of them in front as fit
abbrev pub list_tags : List ℕ → ℕ → List TagEntry → Result (ℕ × List TagEntry) TiffError
list_tags file page slice = do
  header ← header_at file
  d ← tags_at_page file page
  counted (entries_told header.kind header.order d.state.directory) slice
