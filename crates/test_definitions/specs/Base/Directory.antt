-- Worked examples of entries and directories.
use Rattle.std.specs.Prelude.{◌≡◌, ℕ, List, [], ◌∷◌, ◌++◌, take, Option, Some, None, Result, Ok, Err, length}
use Rattle.std.specs.FinMap.{get, len}
use Rattle.tiff_base.specs.declared.error.TiffError.{TiffError}
use Rattle.tiff_base.specs.declared.error.TiffError.TheVariants.{IoError}
use Rattle.tiff_base.specs.declared.io.IoKind.TheVariants.{UnexpectedEof}
use Rattle.tiff_base.specs.declared.tags.ByteOrder.TheVariants.{LittleEndian, BigEndian}
use Rattle.tiff_base.specs.declared.tags.FileKind.TheVariants.{Classic, Big}
use Rattle.tiff_base.specs.Field.{Field, DirectoryRecord}
use Rattle.tiff_base.specs.Directory.{entry_of, entry_at, last_of_each, directory_at}
use Rattle.test_definitions.specs.Files.{gray_file, gray_entries, one_long, one_short}

-- the field of a directory for a tag number, and the number of its fields
abbrev pub field_in : Result DirectoryRecord TiffError → ℕ → Option Field
field_in (Ok d) tag = get d.entries tag
field_in (Err e) tag = None

abbrev pub fields_in : Result DirectoryRecord TiffError → ℕ
fields_in (Ok d) = len d.entries
fields_in (Err e) = 0

-- mistake: `value_of` doesn't fill up with zeros in a classic file
-- mistake: `field_of` reads the count from byte 8 on
-- mistake: `entry_of` takes the type for the tag number
-- an entry of a classic file: ImageWidth, LONG, one value, 5
abbrev pub classic_entry : Type 0
classic_entry =
    entry_of Classic LittleEndian
    (0x00 ∷ 0x01 ∷ 0x04 ∷ 0x00 ∷ 0x01 ∷ 0x00 ∷ 0x00 ∷ 0x00 ∷ 0x05 ∷ 0x00 ∷ 0x00
    ∷ 0x00 ∷ [])
    ≡ Some (256, one_long (0x05 ∷ 0x00 ∷ 0x00 ∷ 0x00 ∷ 0x00 ∷ 0x00 ∷ 0x00 ∷ 0x00 ∷ []))

-- an entry of a classic big-endian file: BitsPerSample, SHORT, one value, 8, at the front of its
-- value field
abbrev pub big_endian_entry : Type 0
big_endian_entry =
    entry_of Classic BigEndian
    (0x01 ∷ 0x02 ∷ 0x00 ∷ 0x03 ∷ 0x00 ∷ 0x00 ∷ 0x00 ∷ 0x01 ∷ 0x00 ∷ 0x08 ∷ 0x00 ∷ 0x00
    ∷ [])
    ≡ Some (258, one_short (0x00 ∷ 0x08 ∷ 0x00 ∷ 0x00 ∷ 0x00 ∷ 0x00 ∷ 0x00 ∷ 0x00 ∷ []))

-- a classic entry of the unknown type 99 has no field
abbrev pub unknown_entry : Type 0
unknown_entry =
    entry_of Classic LittleEndian
    (0xff ∷ 0xff ∷ 0x63 ∷ 0x00 ∷ 0xaa ∷ 0xaa ∷ 0xaa ∷ 0xaa ∷ 0xaa ∷ 0xaa
    ∷ 0xaa ∷ 0xaa ∷ []) ≡ None

-- mistake: `value_of` begins at byte 8 in BigTIFF
-- an entry of a BigTIFF file: ImageWidth, LONG, one value, 5
abbrev pub wide_entry : Type 0
wide_entry =
    entry_of Big LittleEndian
    (0x00 ∷ 0x01 ∷ 0x04 ∷ 0x00 ∷ 0x01 ∷ 0x00 ∷ 0x00 ∷ 0x00 ∷ 0x00 ∷ 0x00 ∷ 0x00 ∷ 0x00
    ∷ 0x05 ∷ 0x00 ∷ 0x00 ∷ 0x00 ∷ 0x00 ∷ 0x00 ∷ 0x00 ∷ 0x00 ∷ [])
    ≡ Some (256, one_long (0x05 ∷ 0x00 ∷ 0x00 ∷ 0x00 ∷ 0x00 ∷ 0x00 ∷ 0x00 ∷ 0x00 ∷ []))

-- a BigTIFF entry of the unknown type 99 has no field
abbrev pub unknown_wide_entry : Type 0
unknown_wide_entry =
    entry_of Big LittleEndian
    (0xff ∷ 0xff ∷ 0x63 ∷ 0x00 ∷ 0xaa ∷ 0xaa ∷ 0xaa ∷ 0xaa ∷ 0xaa ∷ 0xaa ∷ 0xaa ∷ 0xaa
    ∷ 0xaa ∷ 0xaa ∷ 0xaa ∷ 0xaa ∷ 0xaa ∷ 0xaa ∷ 0xaa ∷ 0xaa ∷ []) ≡ None

-- an entry at an offset, and one that is cut off
abbrev pub entry_at_1 : Type 0
entry_at_1 =
    entry_at Classic LittleEndian
    (0xee ∷ 0x00 ∷ 0x01 ∷ 0x04 ∷ 0x00 ∷ 0x01 ∷ 0x00 ∷ 0x00 ∷ 0x00 ∷ 0x05 ∷ 0x00
    ∷ 0x00 ∷ 0x00 ∷ []) 1
    ≡ Ok (Some (256, one_long (0x05 ∷ 0x00 ∷ 0x00 ∷ 0x00 ∷ 0x00 ∷ 0x00 ∷ 0x00 ∷ 0x00 ∷ [])))

-- mistake: `entry_at` reads an entry that is cut
abbrev pub cut_entry : Type 0
cut_entry =
    entry_at Classic LittleEndian
    (0x00 ∷ 0x01 ∷ 0x04 ∷ 0x00 ∷ 0x01 ∷ 0x00 ∷ 0x00 ∷ 0x00 ∷ 0x05 ∷ 0x00 ∷ 0x00
    ∷ []) 0 ≡ Err (IoError UnexpectedEof)

-- mistake: `link` takes 0 for an offset like others
-- a directory without entries, and a directory whose link is 258
abbrev pub no_entries : Type 0
no_entries =
    directory_at Classic LittleEndian (0x00 ∷ 0x00 ∷ 0x00 ∷ 0x00 ∷ 0x00 ∷ 0x00 ∷ []) 0
    ≡ Ok (record { entries = last_of_each []; next = None })

-- mistake: `first_entry` is 8 bytes after the directory's offset, in both kinds of file
-- mistake: `link_offset` is one entry too far
abbrev pub linked : Type 0
linked =
    directory_at Classic BigEndian (0x00 ∷ 0x00 ∷ 0x00 ∷ 0x00 ∷ 0x01 ∷ 0x02 ∷ []) 0
    ≡ Ok (record { entries = last_of_each []; next = Some 258 })

-- a directory whose link is cut off by one byte
abbrev pub cut_link : Type 0
cut_link = directory_at Classic LittleEndian (0x00 ∷ 0x00 ∷ 0x00 ∷ 0x00 ∷ 0x00 ∷ []) 0
    ≡ Err (IoError UnexpectedEof)

-- a directory that begins past the end
abbrev pub past_end : Type 0
past_end = directory_at Classic LittleEndian (0x00 ∷ 0x00 ∷ 0x00 ∷ 0x00 ∷ 0x00 ∷ 0x00 ∷ []) 9
    ≡ Err (IoError UnexpectedEof)

-- a directory of two entries, both ImageWidth: 1, then 2
abbrev pub twice : List ℕ
twice =
    (0x02 ∷ 0x00 ∷ [])
    ++ (0x00 ∷ 0x01 ∷ 0x04 ∷ 0x00 ∷ 0x01 ∷ 0x00 ∷ 0x00 ∷ 0x00 ∷ 0x01 ∷ 0x00 ∷ 0x00 ∷ 0x00 ∷ [])
    ++ (0x00 ∷ 0x01 ∷ 0x04 ∷ 0x00 ∷ 0x01 ∷ 0x00 ∷ 0x00 ∷ 0x00 ∷ 0x02 ∷ 0x00 ∷ 0x00 ∷ 0x00 ∷ [])
    ++ (0x00 ∷ 0x00 ∷ 0x00 ∷ 0x00 ∷ [])

abbrev pub twice_entries : List (ℕ × Field)
twice_entries =
    (256, one_long (0x01 ∷ 0x00 ∷ 0x00 ∷ 0x00 ∷ 0x00 ∷ 0x00 ∷ 0x00 ∷ 0x00 ∷ [])) ∷ (
      256,
      one_long (0x02 ∷ 0x00
          ∷ 0x00 ∷ 0x00 ∷ 0x00 ∷ 0x00 ∷ 0x00 ∷ 0x00 ∷ []),
    ) ∷ []

-- mistake: `entries_from` reads entries one byte apart
-- mistake: `directory_at` reads the link before the entries
abbrev pub twice_found : Type 0
twice_found =
    directory_at Classic LittleEndian twice 0
    ≡ Ok (record { entries = last_of_each twice_entries; next = None })

-- mistake: `last_of_each` keeps the first
-- the last of two entries with one tag number is kept, and the other isn't
abbrev pub last_stands : Type 0
last_stands =
    field_in (directory_at Classic LittleEndian twice 0) 256
    ≡ Some (one_long (0x02 ∷ 0x00 ∷ 0x00 ∷ 0x00 ∷ 0x00 ∷ 0x00 ∷ 0x00 ∷ 0x00 ∷ []))

abbrev pub one_stands : Type 0
one_stands = fields_in (directory_at Classic LittleEndian twice 0) ≡ 1

-- the second of two ImageWidth entries has the unknown type 99: the first is kept
abbrev pub first_stands : Type 0
first_stands =
    field_in (directory_at Classic LittleEndian
    ((0x02 ∷ 0x00 ∷ [])
    ++ (0x00 ∷ 0x01 ∷ 0x04 ∷ 0x00 ∷ 0x01 ∷ 0x00 ∷ 0x00 ∷ 0x00 ∷ 0x01 ∷ 0x00 ∷ 0x00 ∷ 0x00 ∷ [])
    ++ (0x00 ∷ 0x01 ∷ 0x63 ∷ 0x00 ∷ 0x01 ∷ 0x00 ∷ 0x00 ∷ 0x00 ∷ 0x02 ∷ 0x00 ∷ 0x00 ∷ 0x00 ∷ [])
    ++ (0x00 ∷ 0x00 ∷ 0x00 ∷ 0x00 ∷ [])) 0) 256
    ≡ Some (one_long (0x01 ∷ 0x00 ∷ 0x00 ∷ 0x00 ∷ 0x00 ∷ 0x00 ∷ 0x00 ∷ 0x00 ∷ []))

-- mistake: `count_width` reads two bytes in BigTIFF
-- mistake: `entry_len` gives an entry 12 bytes in BigTIFF
-- a BigTIFF directory whose first entry has the unknown type 99 skips the whole entry
abbrev pub wide_directory : Type 0
wide_directory =
    directory_at Big LittleEndian
    ((0x49 ∷ 0x49 ∷ 0x2b ∷ 0x00 ∷ 0x08 ∷ 0x00 ∷ 0x00 ∷ 0x00 ∷ 0x10 ∷ 0x00 ∷ 0x00 ∷ 0x00 ∷ 0x00
    ∷ 0x00 ∷ 0x00 ∷ 0x00
    ∷ 0x02 ∷ 0x00 ∷ 0x00 ∷ 0x00 ∷ 0x00 ∷ 0x00 ∷ 0x00 ∷ 0x00 ∷ [])
    ++ (0xff ∷ 0xff ∷ 0x63 ∷ 0x00 ∷ 0xaa ∷ 0xaa ∷ 0xaa ∷ 0xaa ∷ 0xaa ∷ 0xaa ∷ 0xaa ∷ 0xaa ∷ 0xaa
    ∷ 0xaa ∷ 0xaa
    ∷ 0xaa ∷ 0xaa ∷ 0xaa ∷ 0xaa ∷ 0xaa ∷ [])
    ++ (0x00 ∷ 0x01 ∷ 0x04 ∷ 0x00 ∷ 0x01 ∷ 0x00 ∷ 0x00 ∷ 0x00 ∷ 0x00 ∷ 0x00 ∷ 0x00 ∷ 0x00 ∷ 0x05
    ∷ 0x00 ∷ 0x00
    ∷ 0x00 ∷ 0x00 ∷ 0x00 ∷ 0x00 ∷ 0x00 ∷ [])
    ++ (0x00 ∷ 0x00 ∷ 0x00 ∷ 0x00 ∷ 0x00 ∷ 0x00 ∷ 0x00 ∷ 0x00 ∷ [])) 16
    ≡ Ok (record {
      entries =
          last_of_each
          ((256, one_long (0x05 ∷ 0x00 ∷ 0x00 ∷ 0x00 ∷ 0x00 ∷ 0x00 ∷ 0x00 ∷ 0x00 ∷ [])) ∷ []);
      next = None;
    })

-- the file of one gray pixel has 199 bytes
abbrev pub gray_length : Type 0
gray_length = length gray_file ≡ 199

-- the directory of `gray_file` at 25: these fields, and no next directory
abbrev pub gray_found : Type 0
gray_found =
    directory_at Classic LittleEndian gray_file 25
    ≡ Ok (record { entries = last_of_each gray_entries; next = None })

-- the directory of `gray_file` has 14 fields
abbrev pub gray_14 : Type 0
gray_14 = fields_in (directory_at Classic LittleEndian gray_file 25) ≡ 14

-- RowsPerStrip of `gray_file` is a million, and it has no Artist
abbrev pub gray_rows : Type 0
gray_rows =
    field_in (directory_at Classic LittleEndian gray_file 25) 278
    ≡ Some (one_long (0x40 ∷ 0x42 ∷ 0x0f ∷ 0x00 ∷ 0x00 ∷ 0x00 ∷ 0x00 ∷ 0x00 ∷ []))

abbrev pub gray_artist : Type 0
gray_artist = field_in (directory_at Classic LittleEndian gray_file 25) 315 ≡ None

-- `gray_file` without its last byte
abbrev pub gray_cut : Type 0
gray_cut = directory_at Classic LittleEndian (take 198 gray_file) 25 ≡ Err (IoError UnexpectedEof)
