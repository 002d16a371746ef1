-- Which bytes the checks of a page and reads of pixels ask a source for.
use Rattle.std.specs.Prelude.{◌≡◌, true, ℕ, ◌+◌, ◌*◌, ◌<◌, if◌then◌else◌, slice_index, Result, Ok}
use Rattle.tiff_base.specs.declared.color.ColorType.{ColorType}
use Rattle.tiff_base.specs.declared.error.TiffError.{TiffError}
use Rattle.tiff_base.specs.declared.tags.ByteOrder.{ByteOrder}
use Rattle.tiff_base.specs.declared.tags.FileKind.{FileKind}
use Rattle.tiff_base.specs.declared.tags.Tag.{Tag}
use Rattle.tiff_base.specs.Answers.{ReadsOnly}
use Rattle.tiff_base.specs.Field.{DirectoryRecord}
use Rattle.tiff_base.specs.SourceAndSink.{AreReadable, SourceRecord}
use Rattle.tiff_base.specs.Tags.{tag_number}
use Rattle.tiff_ifd.specs.TagLookup.{DirectoryTags}
use Rattle.tiff_ifd.specs.Stretches.{TagReadable}
use Rattle.tiff_ifd.specs.Unpacking.{PackedReadable}
use Rattle.tiff_page.specs.declared.chunk_data.ChunkCursor.{ChunkCursor}
use Rattle.tiff_page.specs.declared.chunk_data.ChunkCursor.TheVariants.{Plain, Packed, Ended}
use Rattle.tiff_page.specs.Buffers.{planes_layout}
use Rattle.tiff_page.specs.Checks.{is_page_tag}
use Rattle.tiff_page.specs.Methods.{is_packed}
use Rattle.tiff_page.specs.Layout.{LayoutRecord}
use Rattle.tiff_page.specs.Page.{PageRecord}
use Rattle.tiff_page.specs.PixelCalls.{Part, image_part, chunk_part}
use Rattle.tiff_page.specs.Pixels.{needed_bytes}
use Rattle.tiff_page.specs.Rect.{rect, chunks_of_plane}

-- A source can read the values of each tag that the checks of a page read and that the directory
-- has.
pub record PageReadable (source : SourceRecord) (kind : FileKind) (order : ByteOrder)
    (directory : DirectoryRecord) : Type 0 where
  pub each : (t : Tag) → is_page_tag (tag_number t) ≡ true
      → TagReadable source kind order directory t

-- The checks of a page ask only for the values of the tags that they read.
abbrev pub AsksForPage : {X : Type 0} → DirectoryTags → Result X TiffError → Type 0
AsksForPage tags result =
    ReadsOnly (PageReadable tags.source tags.kind tags.order tags.directory) result

-- A source can read n bytes of the data of a chunk from a position on; of PackBits data, all
-- counted bytes.
abbrev pub StoredReadable : SourceRecord → ChunkCursor → ℕ → Type 0
StoredReadable source (Plain at) n = AreReadable source at n
StoredReadable source (Packed position) n = PackedReadable source position
StoredReadable source Ended n = Unit {0}

-- A position is n bytes after another one: what is read from it is among the bytes from the other
-- one on.
abbrev pub Moves : ChunkCursor → ℕ → ChunkCursor → Type 0
Moves from n rest = (source : SourceRecord) (m : ℕ) → StoredReadable source from (n + m)
    → StoredReadable source rest m

-- A source can read n bytes of the data of a chunk; of PackBits data, all counted bytes.
abbrev pub DataReadable : SourceRecord → PageRecord → ℕ → ℕ → Type 0
DataReadable source p i n =
    AreReadable source (slice_index p.offsets i) (if is_packed p.method
    then slice_index p.byte_counts i else n)

-- A source can read the bytes that are needed of a chunk: up to the last needed byte of its last
-- row, as it is stored.
abbrev pub ChunkReadable : SourceRecord → PageRecord → ColorType → ℕ → Type 0
ChunkReadable source p color i = DataReadable source p i (needed_bytes p color i)

-- A source can read the bytes that are needed of each chunk of a part of an image.
pub record PartReadable (source : SourceRecord) (p : PageRecord) (color : ColorType) (part : Part)
    : Type 0 where
  pub chunk : (plane : ℕ) → plane < part.planes → (j : ℕ) → j < part.count
      → ChunkReadable source p color (plane * chunks_of_plane p + (part.first + j))

-- A source can read the bytes that are needed of each chunk of a part that a layout defines.
-- Without a layout, nothing is read.
pub record LaidReadable (source : SourceRecord) (p : PageRecord)
    (laid : Result LayoutRecord TiffError) (part : LayoutRecord → Part) : Type 0 where
  pub part_readable : (l : LayoutRecord) → laid ≡ Ok l → PartReadable source p l.color (part l)

-- A source can read the bytes that are needed of all chunks of an image, in as many planes as a
-- function of its layout says.
abbrev pub ImageReadable : SourceRecord → PageRecord → (LayoutRecord → ℕ) → Type 0
ImageReadable source p planes =
    LaidReadable source p (planes_layout p p.width p.height)
    (λ l. image_part p (planes l) l.row_bytes)

-- A source can read the bytes that are needed of a chunk, or of the chunk of a coding unit in each
-- of several planes.
abbrev pub ChunksReadable : SourceRecord → PageRecord → ℕ → (LayoutRecord → ℕ) → Type 0
ChunksReadable source p i planes =
    LaidReadable source p (planes_layout p (rect p i).width (rect p i).height)
    (λ l. chunk_part p i (planes l) l.row_bytes)
