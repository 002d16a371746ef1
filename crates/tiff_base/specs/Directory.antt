-- Entries and directories of a file (TIFF 6.0 section 2; BigTIFF).
use Rattle.std.specs.Prelude.{◌≡◌, ℕ, ◌+◌, ◌*◌, List, [], ◌∷◌, ◌++◌, map, reverse, nat_lt, Option, Some, None, Result, Ok, if◌then◌else◌, ◌==◌}
use Rattle.std.specs.Option.{option_map}
use Rattle.std.specs.Int.{Width, w16, w32, w64, byte_len}
use Rattle.std.specs.List.{filter, filter_map, fold, range_with_len}
use Rattle.std.specs.FinMap.{FinMap, empty, from_entries, insert}
use Rattle.std.specs.Ordering.{nat_cmp}
use Rattle.tiff_base.specs.declared.error.TiffError.{TiffError}
use Rattle.tiff_base.specs.declared.tags.ByteOrder.{ByteOrder}
use Rattle.tiff_base.specs.declared.tags.FileKind.{FileKind}
use Rattle.tiff_base.specs.declared.tags.Tag.{Tag}
use Rattle.tiff_base.specs.declared.tags.«Type».{«Type»}
use Rattle.tiff_base.specs.declared.tags.FileKind.TheVariants.{Classic, Big}
use Rattle.tiff_base.specs.Field.{Field, DirectoryRecord}
use Rattle.tiff_base.specs.Tags.{tag_number, type_of}
use Rattle.tiff_base.specs.SourceAndSink.{bytes_at, exactly_at}
use Rattle.tiff_base.specs.Number.{number, number_at}
use Rattle.tiff_base.specs.Answers.{◌>>=◌}

-- the width of the number of entries of a directory
abbrev pub count_width : FileKind → Width
count_width Classic = w16
count_width Big = w64

-- the width of each offset, link, number of values and value field
abbrev pub offset_width : FileKind → Width
offset_width Classic = w32
offset_width Big = w64

-- the number of bytes of an entry
abbrev pub entry_len : FileKind → ℕ
entry_len Classic = 12
entry_len Big = 20

-- the eight bytes of a value field; zeros follow a value field of four bytes
abbrev pub value_of : FileKind → List ℕ → List ℕ
value_of Classic entry = bytes_at entry 8 4 ++ (0 ∷ 0 ∷ 0 ∷ 0 ∷ [])
value_of Big entry = bytes_at entry 12 8

-- the field that the bytes of an entry encode, with this type of its values
abbrev pub field_of : FileKind → ByteOrder → List ℕ → «Type» → Field
field_of kind order entry type = record {
  field_type = type;
  count = number order (offset_width kind) (bytes_at entry 4 (byte_len (offset_width kind)));
  value = value_of kind entry;
}

-- the tag number and the field that the bytes of an entry encode, if the type of the field is known
unfoldable pub entry_of : FileKind → ByteOrder → List ℕ → Option (ℕ × Field)
entry_of kind order entry =
    option_map (λ type. (number order w16 (bytes_at entry 0 2), field_of kind order entry type))
    (type_of (number order w16 (bytes_at entry 2 2)))

-- the entry at an offset, or none if its type is unknown
abbrev pub entry_at : FileKind → ByteOrder → List ℕ → ℕ → Result (Option (ℕ × Field)) TiffError
entry_at kind order bytes at = do
  entry ← exactly_at bytes at (entry_len kind)
  Ok (entry_of kind order entry)

-- the entries of known type among the first `count` entries from an offset on
unfoldable pub entries_from : FileKind → ByteOrder → List ℕ → ℕ → ℕ → List (ℕ × Field)
entries_from kind order bytes first count =
    filter_map
    (λ i. entry_of kind order (bytes_at bytes (first + entry_len kind * i) (entry_len kind)))
    (range_with_len 0 count)

-- each tag number, with the last entry of the list that has this number
unfoldable pub last_of_each : List (ℕ × Field) → FinMap nat_cmp Field
last_of_each entries = from_entries (reverse entries)

-- a directory after fields are set in turn, each under the number of its tag: of several fields
-- with one number the last remains
abbrev pub with_entries : DirectoryRecord → List (Tag × Field) → DirectoryRecord
with_entries d items =
    record d { entries = fold (λ m item. insert m (tag_number item.0) item.1) d.entries items }

-- the fields whose tag numbers are above n
abbrev pub fields_after : ℕ → List (ℕ × Field) → List (ℕ × Field)
fields_after n fields = filter (λ e. nat_lt n e.0) fields

-- the offset of the next directory, or none for a link of 0
abbrev pub link : ℕ → Option ℕ
link offset = if offset == 0 then None else Some offset

-- the offset of the first entry of a directory, and the offset of its link
abbrev pub first_entry : FileKind → ℕ → ℕ
first_entry kind at = at + byte_len (count_width kind)

abbrev pub link_offset : FileKind → ℕ → ℕ → ℕ
link_offset kind at count = first_entry kind at + entry_len kind * count

-- the directory at an offset: the number of entries, the entries, and a link
unfoldable pub directory_at : FileKind → ByteOrder → List ℕ → ℕ → Result DirectoryRecord TiffError
directory_at kind order bytes at = do
  count ← number_at order (count_width kind) bytes at
  next ← number_at order (offset_width kind) bytes (link_offset kind at count)
  Ok (record {
    entries = last_of_each (entries_from kind order bytes (first_entry kind at) count);
    next = link next;
  })

-- The law: a directory that starts empty, and whose fields are set in turn, contains the last field
-- of each tag number.
abbrev pub LastOfEachStand : Type 0
LastOfEachStand = (items : List (Tag × Field))
    → (with_entries (record { entries = empty; next = None }) items).entries
    ≡ last_of_each (map (λ item. (tag_number item.0, item.1)) items)
