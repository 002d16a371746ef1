-- How many bytes a decoder asks its source for: on the way along a chain of directories, and to
-- read pixels (this project's).
use Rattle.std.specs.Prelude.{◌≡◌, ℕ, ◌+◌, ◌*◌, ◌≤◌, List, [], ◌∷◌, false, if◌then◌else◌, slice_index, sum_by, Ok}
use Rattle.std.specs.List.{range_with_len}
use Rattle.tiff_base.specs.declared.tags.ByteOrder.{ByteOrder}
use Rattle.tiff_base.specs.declared.tags.FileKind.{FileKind}
use Rattle.tiff_base.specs.SourceAndSink.{AreReadable, SourceRecord}
use Rattle.tiff_ifd.specs.IfdChainWalk.{WayReadable}
use Rattle.tiff_page.specs.Buffers.{planes_layout}
use Rattle.tiff_page.specs.Methods.{is_packed}
use Rattle.tiff_page.specs.Laws.{HasSides}
use Rattle.tiff_page.specs.Layout.{LayoutRecord, samples_in_chunk}
use Rattle.tiff_page.specs.Page.{PageRecord}
use Rattle.tiff_page.specs.Pixels.{stored_row_bytes, stored_samples}
use Rattle.tiff_page.specs.Reach.{ChunksReadable, ImageReadable}
use Rattle.tiff_page.specs.Rect.{across, chunks_of_plane, rect}

-- how many bytes these stretches have: each is an offset and a length
abbrev pub stretch_bytes : List (ℕ × ℕ) → ℕ
stretch_bytes [] = 0
stretch_bytes (s ∷ stretches) = s.1 + stretch_bytes stretches

-- a source can read each of these stretches
abbrev pub AreAllReadable : SourceRecord → List (ℕ × ℕ) → Type 0
AreAllReadable source [] = Unit {0}
AreAllReadable source (s ∷ stretches) = AreReadable source s.0 s.1 × AreAllReadable source stretches

-- The way to a directory of the chain needs at most 16 bytes of each directory up to it, whatever
-- the bytes of the file: a source that can read these stretches can read the way.
abbrev pub WayCosts : Type 0
WayCosts = (kind : FileKind) (order : ByteOrder) (bytes : List ℕ) (first index : ℕ)
    → (stretches : List (ℕ × ℕ)) × ((stretch_bytes stretches ≤ 16 * (index + 1))
    × ((source : SourceRecord) → source.bytes ≡ bytes → AreAllReadable source stretches
    → WayReadable source kind order first index))

-- ---- pixels

-- The most bytes that a read of an image in some planes asks for: of PackBits data the counted
-- bytes of each chunk; else, in each plane, as many stored rows of each chunk side by side as the
-- image has rows.
abbrev pub most_of_image : PageRecord → ℕ → ℕ
most_of_image p planes =
    if is_packed p.method
    then sum_by (slice_index p.byte_counts) (range_with_len 0 (planes * chunks_of_plane p))
    else planes * (p.height * (across p * stored_row_bytes p))

-- The most bytes that a read of chunk i in some planes asks for: of PackBits data the counted bytes
-- of the chunk in each plane; else, in each plane, as many stored rows as a chunk has.
abbrev pub most_of_chunk : PageRecord → ℕ → ℕ → ℕ
most_of_chunk p i planes =
    if is_packed p.method
    then sum_by (λ plane. slice_index p.byte_counts (plane * chunks_of_plane p + i))
    (range_with_len 0 planes)
    else planes * (p.chunk_height * stored_row_bytes p)

-- To read an image in some planes, a decoder asks for at most `most_of_image` bytes: a source that
-- can read these stretches can read the image.
abbrev pub ImageCosts : Type 0
ImageCosts = (p : PageRecord) (planes : LayoutRecord → ℕ) (l : LayoutRecord) → HasSides p
    → planes_layout p p.width p.height ≡ Ok l
    → (stretches : List (ℕ × ℕ)) × ((stretch_bytes stretches ≤ most_of_image p (planes l))
    × ((source : SourceRecord) → AreAllReadable source stretches → ImageReadable source p planes))

-- To read a chunk in some planes, a decoder asks for at most `most_of_chunk` bytes: a source that
-- can read these stretches can read the chunk.
abbrev pub ChunkCosts : Type 0
ChunkCosts = (p : PageRecord) (i : ℕ) (planes : LayoutRecord → ℕ) (l : LayoutRecord) → HasSides p
    → planes_layout p (rect p i).width (rect p i).height ≡ Ok l
    → (stretches : List (ℕ × ℕ)) × ((stretch_bytes stretches ≤ most_of_chunk p i (planes l))
    × ((source : SourceRecord) → AreAllReadable source stretches → ChunksReadable source p i planes))

-- For strips that aren't packed, of which all samples are shown, that is the number of bytes of the
-- planes that are read.
abbrev pub StripsCost : Type 0
StripsCost = (p : PageRecord) (l : LayoutRecord) (n : ℕ) → HasSides p
    → planes_layout p p.width p.height ≡ Ok l
    → p.chunk_width ≡ p.width → is_packed p.method ≡ false
    → samples_in_chunk p.planar l.color ≡ stored_samples p
    → most_of_image p n ≡ n * l.plane_stride
