-- Worked examples of reads: the bytes of a source that chunk data and the checks of a page need.
use Rattle.std.specs.Prelude.{◌≡◌, ℕ, ◌-◌, List, [], ◌∷◌, None, Some, Err}
use Rattle.std.specs.FinMap.{from_entries}
use Rattle.tiff_base.specs.declared.color.ColorType.TheVariants as color
use Rattle.tiff_base.specs.declared.error.TiffError.TheVariants.{IoError}
use Rattle.tiff_base.specs.declared.io.IoKind.TheVariants.{Device}
use Rattle.tiff_base.specs.declared.tags.ByteOrder.TheVariants.{LittleEndian}
use Rattle.tiff_base.specs.declared.tags.CompressionMethod.TheVariants as method
use Rattle.tiff_base.specs.declared.tags.FileKind.TheVariants.{Classic}
use Rattle.tiff_base.specs.declared.tags.Tag.{Tag}
use Rattle.tiff_base.specs.declared.tags.Tag.TheVariants as tag
use Rattle.tiff_base.specs.declared.tags.«Type».TheVariants.{ASCII, LONG, UNDEFINED}
use Rattle.tiff_base.specs.Field.{Field, DirectoryRecord}
use Rattle.tiff_base.specs.SourceAndSink.{SourceRecord}
use Rattle.tiff_base.specs.Tags.{tag_number}
use Rattle.tiff_ifd.specs.Limits.{unlimited}
use Rattle.tiff_ifd.specs.TagLookup.{DirectoryTags, look_in}
use Rattle.tiff_page.specs.declared.chunk_data.ChunkCursor.TheVariants.{Plain, Ended}
use Rattle.tiff_page.specs.PixelCalls.{image_part, chunk_part}
use Rattle.tiff_page.specs.Reach.{AsksForPage, StoredReadable, ChunkReadable, PageReadable, PartReadable}
use Rattle.tiff_laws.specs.Costs.{most_of_chunk, most_of_image}
use Rattle.test_definitions.specs.Base.FieldBytes.{of}
use Rattle.test_definitions.specs.Files.{one_long}
use Rattle.test_definitions.specs.Page.Pixels.{pixel_page}
use Rattle.test_definitions.specs.Page.PixelCalls.{two_planes}

-- a source with the readable bytes from one offset to before another
abbrev pub between : ℕ → ℕ → SourceRecord
between from end = record { bytes = []; readable = Some ((from, end - from) ∷ []) }

-- mistake: `ChunkReadable` asks for the counted bytes of plain data
-- a pixel at 24 needs one byte, whatever its byte count is
abbrev pub pixel_needs : Type 0
pixel_needs =
    ChunkReadable (between 24 25) (record pixel_page { byte_counts = 99 ∷ [] }) (color.Gray 8) 0

abbrev pub pixel_needs_it : Type 0
pixel_needs_it =
    ChunkReadable (between 25 99) (record pixel_page { byte_counts = 99 ∷ [] }) (color.Gray 8) 0 → ⊥

-- a packed pixel may need all the bytes of its byte count
abbrev pub packed_needs : Type 0
packed_needs =
    ChunkReadable (between 24 123)
    (record pixel_page { method = method.PackBits; byte_counts = 99 ∷ [] }) (color.Gray 8) 0

-- mistake: `ChunkReadable` asks for the needed bytes of packed data
abbrev pub packed_needs_all : Type 0
packed_needs_all =
    ChunkReadable (between 24 122)
    (record pixel_page { method = method.PackBits; byte_counts = 99 ∷ [] }) (color.Gray 8) 0 → ⊥

-- mistake: `ChunkReadable` asks for the padding of a tile (`corner_tile_needs` fails too)
-- a tile of two by two bytes that the right edge cuts: the last byte isn't needed; that both edges
-- cut: one byte is needed
abbrev pub cut_tile_needs : Type 0
cut_tile_needs = ChunkReadable (between 4 7) two_planes (color.Gray 8) 1

abbrev pub corner_tile_needs : Type 0
corner_tile_needs = ChunkReadable (between 12 13) two_planes (color.Gray 8) 3

-- the first plane needs the bytes before 13, including the last of them, and none after
abbrev pub plane_needs : Type 0
plane_needs = PartReadable (between 0 13) two_planes (color.Gray 8) (image_part two_planes 1 3)

-- mistake: `PartReadable` asks for no bytes
abbrev pub plane_needs_last : Type 0
plane_needs_last = PartReadable (between 0 12) two_planes (color.Gray 8) (image_part two_planes 1 3)
    → ⊥

-- mistake: `PartReadable` asks for the first plane alone
-- a chunk of two planes needs its bytes in the second plane
abbrev pub unit_needs_second : Type 0
unit_needs_second =
    PartReadable (between 0 28) two_planes (color.Gray 8) (chunk_part two_planes 3 2 1) → ⊥

-- mistake: `most_of_image` counts the chunks in place of their rows
-- a plane of 3 by 3 bytes in tiles of 2 by 2 needs at most 3 rows of 2 bytes in two tiles side by
-- side
abbrev pub plane_costs : Type 0
plane_costs = most_of_image two_planes 1 ≡ 12

-- mistake: `most_of_chunk` leaves out chunks side by side
-- a tile in each of two planes needs at most 2 rows of 2 bytes in each plane
abbrev pub unit_costs : Type 0
unit_costs = most_of_chunk two_planes 3 2 ≡ 8

-- mistake: `most_of_image` takes the counted bytes of plain data
-- a PackBits plane of four tiles needs at most 4 bytes per tile, the byte count
abbrev pub packed_plane_costs : Type 0
packed_plane_costs = most_of_image (record two_planes { method = method.PackBits }) 1 ≡ 16

-- mistake: `most_of_chunk` takes the first plane's count alone
abbrev pub packed_unit_costs : Type 0
packed_unit_costs =
    most_of_chunk (record two_planes { method = method.PackBits; byte_counts = 1 ∷ 2 ∷ 3 ∷ 4 ∷ 5 ∷ 6 ∷ 7 ∷ 8 ∷ [] }) 1 2
    ≡ 8

-- three bytes from byte 5 on
abbrev pub three_from_five : Type 0
three_from_five = StoredReadable (between 5 8) (Plain 5) 3

-- mistake: `StoredReadable` asks for fewer bytes
abbrev pub not_two_of_three : Type 0
not_two_of_three = StoredReadable (between 5 7) (Plain 5) 3 → ⊥

-- mistake: `StoredReadable` asks for something after the end
-- after the end of the data no bytes are needed
abbrev pub nothing_behind : Type 0
nothing_behind = StoredReadable (between 0 0) Ended 3

-- ---- the checks of a page

-- the eight bytes of a value field that holds 8
abbrev pub eight : List ℕ
eight = 0x08 ∷ 0x00 ∷ 0x00 ∷ 0x00 ∷ 0x00 ∷ 0x00 ∷ 0x00 ∷ 0x00 ∷ []

-- a directory of these fields
abbrev pub directory_of : List (ℕ × Field) → DirectoryRecord
directory_of fields = record { entries = from_entries fields; next = None }

-- the bytes that the checks of a page read are readable in a source
abbrev pub Checks : SourceRecord → List (ℕ × Field) → Type 0
Checks source fields = PageReadable source Classic LittleEndian (directory_of fields)

-- a width, a length and an offset, each in its entry
abbrev pub entry_fields : List (ℕ × Field)
entry_fields = (256, one_long eight) ∷ (257, one_long eight) ∷ (273, one_long eight) ∷ []

-- three strip offsets at offset 8
abbrev pub placed_fields : List (ℕ × Field)
placed_fields = (256, one_long eight) ∷ (257, one_long eight) ∷ (273, of LONG 3 eight) ∷ []

-- a text and a profile at an offset, which the checks don't read
abbrev pub profile_fields : List (ℕ × Field)
profile_fields = (270, of ASCII 99 eight) ∷ (34675, of UNDEFINED 99 eight) ∷ entry_fields

-- values in their entries need no bytes
abbrev pub checks_entries : Type 0
checks_entries = Checks (between 0 0) entry_fields

-- three strip offsets need twelve bytes
abbrev pub checks_placed : Type 0
checks_placed = Checks (between 8 20) placed_fields

abbrev pub checks_placed_all : Type 0
checks_placed_all = Checks (between 8 19) placed_fields → ⊥

-- mistake: `page_tag_numbers` has a text or a profile too
-- mistake: `PageReadable` asks for a text or a profile too
-- a profile isn't read
abbrev pub checks_profile : Type 0
checks_profile = Checks (between 0 0) profile_fields

-- the checks read the values of each of these tags
abbrev pub AreChecked : List Tag → Type 0
AreChecked [] = Unit {0}
AreChecked (t ∷ ts) = (Checks (between 0 0) ((tag_number t, of LONG 3 eight) ∷ []) → ⊥)
    × AreChecked ts

-- the tags of the size of a page and of its chunks; of its samples; and of its data
abbrev pub side_tags : List Tag
side_tags =
    tag.ImageWidth ∷ tag.ImageLength ∷ tag.RowsPerStrip ∷ tag.TileWidth ∷ tag.TileLength ∷ []

-- mistake: `page_tag_numbers` leaves out a tag that the checks read (`checks_samples`,
--   `checks_chunks` fail too)
-- mistake: `PageReadable` leaves out a tag that the checks read (`checks_samples`, `checks_chunks`
--   fail too)
abbrev pub checks_sides : Type 0
checks_sides = AreChecked side_tags

abbrev pub sample_tags : List Tag
sample_tags =
    tag.PhotometricInterpretation ∷ tag.SamplesPerPixel ∷ tag.ExtraSamples ∷ tag.SampleFormat
    ∷ tag.BitsPerSample ∷ tag.ChromaSubsampling ∷ []

abbrev pub checks_samples : Type 0
checks_samples = AreChecked sample_tags

abbrev pub data_tags : List Tag
data_tags =
    tag.Compression ∷ tag.Predictor ∷ tag.PlanarConfiguration ∷ tag.StripOffsets
    ∷ tag.StripByteCounts ∷ tag.TileOffsets ∷ tag.TileByteCounts ∷ []

abbrev pub checks_chunks : Type 0
checks_chunks = AreChecked data_tags

-- the tags of a directory with these fields
abbrev pub tags_of : SourceRecord → List (ℕ × Field) → DirectoryTags
tags_of source fields = record {
  look = look_in Classic LittleEndian source.bytes unlimited (directory_of fields).entries;
  source = source;
  kind = Classic;
  order = LittleEndian;
  directory = directory_of fields;
  limits = unlimited;
}

-- mistake: `AsksForPage` allows a device error in no case
-- the checks may return a device error only if the values aren't readable
abbrev pub checks_asked : Type 0
checks_asked = AsksForPage {X = ℕ} (tags_of (between 8 19) placed_fields) (Err (IoError Device))

-- mistake: `AsksForPage` allows a device error in every case
abbrev pub checks_asked_alone : Type 0
checks_asked_alone =
    AsksForPage {X = ℕ} (tags_of (between 8 20) placed_fields) (Err (IoError Device)) → ⊥
