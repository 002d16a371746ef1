-- What the encoder writes: headers, entries and directories.
use Rattle.std.specs.Prelude.{ℕ, ◌+◌, ◌-◌, ◌%◌, ◌^◌, List, [], ◌∷◌, ◌++◌, length, take, replicate}
use Rattle.std.specs.Int.{byte_len, div_ceil}
use Rattle.std.specs.List.{flat_map}
use Rattle.std.specs.FinMap.{FinMap, len, entries}
use Rattle.std.specs.Ordering.{nat_cmp}
use Rattle.tiff_base.specs.declared.tags.FileKind.{FileKind}
use Rattle.tiff_base.specs.declared.tags.FileKind.TheVariants.{Classic, Big}
use Rattle.tiff_base.specs.Tags.{type_number}
use Rattle.tiff_base.specs.Field.{Field}
use Rattle.tiff_base.specs.Number.{le}
use Rattle.tiff_base.specs.Directory.{count_width, offset_width}

-- the number of bytes of an offset, which is also that of a link, a count of values and a value
-- field; and the number of bytes of a directory's number of entries
abbrev pub offset_len : FileKind → ℕ
offset_len kind = byte_len (offset_width kind)

abbrev pub count_len : FileKind → ℕ
count_len kind = byte_len (count_width kind)

-- the greatest offset that a kind of file can hold
abbrev pub greatest_offset : FileKind → ℕ
greatest_offset kind = 256 ^ offset_len kind - 1

-- the bytes before the header's link: the byte order, which is little-endian, the version, and in
-- BigTIFF the size of offsets
abbrev pub header_mark : FileKind → List ℕ
header_mark Classic = 73 ∷ 73 ∷ 42 ∷ 0 ∷ []
header_mark Big = 73 ∷ 73 ∷ 43 ∷ 0 ∷ 8 ∷ 0 ∷ 0 ∷ 0 ∷ []

-- a header that links to no directory
abbrev pub header_bytes : FileKind → List ℕ
header_bytes kind = header_mark kind ++ le (offset_len kind) 0

-- an entry: tag number, type number, count of values, value field
abbrev pub entry_bytes : FileKind → ℕ × Field → List ℕ
entry_bytes kind entry =
    le 2 entry.0
    ++ (le 2 (type_number entry.1.field_type)
    ++ (le (offset_len kind) entry.1.count ++ take (offset_len kind) entry.1.value))

-- a directory: number of entries, entries in ascending order of tag numbers, link 0
unfoldable pub directory_bytes : FileKind → FinMap nat_cmp Field → List ℕ
directory_bytes kind fields =
    le (count_len kind) (len fields)
    ++ (flat_map (entry_bytes kind) (entries fields) ++ le (offset_len kind) 0)

-- zeros up to the next multiple of 4
abbrev pub padding : ℕ → List ℕ
padding n = replicate ((4 - n % 4) % 4) 0

-- ---- images

-- the number of rows of a strip: as many as make a million bytes
abbrev pub rows_per_strip : ℕ → ℕ
rows_per_strip row_bytes = div_ceil 1000000 row_bytes

-- the offset of the first resolution of an image that is appended to a file of a given length
abbrev pub resolutions_offset : ℕ → ℕ
resolutions_offset n = n + length (padding n)
