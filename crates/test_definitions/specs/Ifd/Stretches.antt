-- Worked examples of stretches: the bytes of a source that headers, directories and values need.
use Rattle.std.specs.Prelude.{◌≡◌, ℕ, List, [], ◌∷◌, None, Some}
use Rattle.std.specs.FinMap.{empty}
use Rattle.tiff_base.specs.declared.tags.ByteOrder.TheVariants.{LittleEndian}
use Rattle.tiff_base.specs.declared.tags.FileKind.TheVariants.{Classic}
use Rattle.tiff_base.specs.declared.tags.Tag.TheVariants as tag
use Rattle.tiff_base.specs.declared.tags.«Type».TheVariants.{SHORT}
use Rattle.tiff_base.specs.Field.{Field}
use Rattle.tiff_base.specs.SourceAndSink.{SourceRecord}
use Rattle.tiff_ifd.specs.Stretches.{header_len, LinkReadable, DirectoryReadable, FieldReadable, TagReadable}

-- mistake: `header_len` asks for 16 bytes of a classic file
-- the length of a header, by its version: classic, BigTIFF, and unknown
abbrev pub header_of_classic : Type 0
header_of_classic = header_len (0x49 ∷ 0x49 ∷ 0x2a ∷ 0x00 ∷ []) ≡ 8

-- mistake: `header_len` asks for 8 bytes of a BigTIFF file
abbrev pub header_of_big : Type 0
header_of_big = header_len (0x4d ∷ 0x4d ∷ 0x00 ∷ 0x2b ∷ []) ≡ 16

abbrev pub header_of_none : Type 0
header_of_none = header_len (0x58 ∷ []) ≡ 8

-- a directory of one entry at offset 0, in a source with these readable stretches
abbrev pub one_entry : List (ℕ × ℕ) → SourceRecord
one_entry stretches = record { bytes = 0x01 ∷ 0x00 ∷ []; readable = Some stretches }

-- a directory of one entry needs 18 bytes: two for the count, twelve for the entry, four for the
-- link
abbrev pub whole_directory : Type 0
whole_directory = DirectoryReadable (one_entry ((0, 18) ∷ [])) Classic LittleEndian 0

-- mistake: `DirectoryReadable` reads a directory without its link
abbrev pub directory_with_link : Type 0
directory_with_link = DirectoryReadable (one_entry ((0, 14) ∷ [])) Classic LittleEndian 0 → ⊥

-- mistake: `LinkReadable` asks for the entries to read a link
-- following a chain needs the count and the link, and no byte between them
abbrev pub link_alone : Type 0
link_alone = LinkReadable (one_entry ((0, 2) ∷ (14, 4) ∷ [])) Classic LittleEndian 0

-- this number of SHORTs at offset 8, or in the entry if they fit
abbrev pub shorts : ℕ → Field
shorts count =
    record {
      field_type = SHORT;
      count = count;
      value = 0x08 ∷ 0x00 ∷ 0x00 ∷ 0x00 ∷ 0x00 ∷ 0x00 ∷ 0x00 ∷ 0x00 ∷ [];
    }

-- a source without readable bytes
abbrev pub nothing : SourceRecord
nothing = one_entry []

-- mistake: `FieldReadable` asks for bytes of a value in its entry
-- two SHORTs are in the entry, and three are at an offset
abbrev pub value_in_entry : Type 0
value_in_entry = FieldReadable nothing Classic LittleEndian (shorts 2)

-- mistake: `FieldReadable` asks for none of a value elsewhere
abbrev pub value_elsewhere : Type 0
value_elsewhere = FieldReadable nothing Classic LittleEndian (shorts 3) → ⊥

abbrev pub value_there : Type 0
value_there = FieldReadable (one_entry ((8, 6) ∷ [])) Classic LittleEndian (shorts 3)

-- mistake: `TagReadable` asks for a tag that isn't there
-- a missing tag needs no bytes
abbrev pub tag_missing : Type 0
tag_missing =
    TagReadable nothing Classic LittleEndian (record { entries = empty; next = None })
    tag.ImageWidth
