-- The chunks of an open image: how many there are, and the samples of each (TIFF 6.0 sections 3,
-- 15; PlanarConfiguration).
use Rattle.std.specs.Prelude.{ℕ, ◌+◌, ◌-◌, ◌*◌, ◌/◌, ◌%◌, ◌^◌, ◌&&◌, Bool, true, false, not, List, [], length, map, take, drop, get_or, slice_index, min, nat_lt, if◌then◌else◌}
use Rattle.tiff_base.specs.declared.color.ChunkType.{ChunkType}
use Rattle.tiff_base.specs.declared.color.ChunkType.TheVariants.{Strip, Tile}
use Rattle.tiff_base.specs.declared.tags.PhotometricInterpretation.{PhotometricInterpretation}
use Rattle.tiff_base.specs.declared.tags.PhotometricInterpretation.TheVariants.{YCbCr}
use Rattle.tiff_base.specs.declared.tags.PlanarConfiguration.{PlanarConfiguration}
use Rattle.tiff_base.specs.declared.tags.PlanarConfiguration.TheVariants.{Chunky, Planar}
use Rattle.tiff_base.specs.declared.tags.SampleFormat.TheVariants.{Void}
use Rattle.tiff_value.specs.ColorType.{first_bits}
use Rattle.tiff_page.specs.Page.{PageRecord}
use Rattle.tiff_page.specs.Counts.{all_chunks}
use Rattle.tiff_page.specs.Rect.{rect, chunk_of_pixel}
use Rattle.tiff_page.specs.Pixels.{tabulate, planar_or, stored_samples}
use Rattle.tiff_encode.specs.Machine.{ChunkLayout, OpenImage, compression_method}

-- the number of samples of a pixel, with the extra samples
abbrev pub all_samples : OpenImage → ℕ
all_samples i = length i.color.bits + length i.extra

-- YCbCr is written without subsampling; a page of another color has the default
abbrev pub subsampling_of : PhotometricInterpretation → ℕ × ℕ
subsampling_of YCbCr = (1, 1)
subsampling_of _ = (2, 2)

-- the page whose samples the chunks of an image store, of whole bytes: a column is one pixel
abbrev pub image_page : OpenImage → PageRecord
image_page i = record {
  width = i.width;
  height = i.height;
  interpretation = i.color.interpretation;
  method = compression_method i.compression;
  samples = all_samples i;
  extra = i.extra;
  format = get_or i.color.formats 0 Void;
  depth = 8 * i.size;
  predictor = i.predictor;
  planar = i.form.planar;
  subsampling = subsampling_of i.color.interpretation;
  chunk_type = i.form.chunk_type;
  chunk_width = i.form.chunk_width;
  chunk_height = i.form.chunk_height;
  offsets = map (λ chunk. chunk.offset) i.chunks;
  byte_counts = map (λ chunk. chunk.stored) i.chunks;
}

-- the width of a chunk in pixels, by that of the image and that in columns: a strip is as wide as
-- the image, and tiles have no packed pixels
abbrev pub pixels_across : ChunkType → ℕ → ℕ → ℕ
pixels_across Strip pixels columns = pixels
pixels_across Tile pixels columns = columns

-- the page that the reader finds for an image
abbrev pub shown_page : OpenImage → PageRecord
shown_page i = record (image_page i) {
  width = i.pixels;
  depth = first_bits i.color;
  chunk_width = pixels_across i.form.chunk_type i.pixels i.form.chunk_width;
}

abbrev pub is_tile : ChunkType → Bool
is_tile Tile = true
is_tile Strip = false

abbrev pub is_planar : PlanarConfiguration → Bool
is_planar Planar = true
is_planar Chunky = false

-- the number of rows of a chunk: a strip has the rows that the image has there, a tile has all its
-- rows
abbrev pub chunk_rows : PageRecord → ℕ → ℕ
chunk_rows p k = if is_tile p.chunk_type then p.chunk_height else (rect p k).height

-- the number of samples of a row of a chunk, and of all its rows
abbrev pub row_samples : PageRecord → ℕ
row_samples p = p.chunk_width * stored_samples p

abbrev pub chunk_samples : PageRecord → ℕ → ℕ
chunk_samples p k = chunk_rows p k * row_samples p

-- whether a chunk is in the file
abbrev pub is_begun : OpenImage → Bool
is_begun i = nat_lt 0 (length i.chunks)

-- whether a chunk is left to write, and how many are left
abbrev pub is_left : OpenImage → Bool
is_left i = nat_lt (length i.chunks) (all_chunks (image_page i))

abbrev pub chunks_left : OpenImage → ℕ
chunks_left i = all_chunks (image_page i) - length i.chunks

-- `next_chunk_sample_count`: the number of samples of the next chunk, at most the largest number
-- that the call can return; 0 after the last chunk
unfoldable pub next_chunk_sample_count : OpenImage → ℕ
next_chunk_sample_count i =
    if is_left i then min (chunk_samples (image_page i) (length i.chunks)) (2 ^ 64 - 1) else 0

-- `next_strip_sample_count`: the number of samples of the next strip, at most the largest number
-- that the call can return; 0 after the last strip and for an image of tiles
unfoldable pub next_strip_sample_count : OpenImage → ℕ
next_strip_sample_count i = if is_tile i.form.chunk_type then 0 else next_chunk_sample_count i

-- ---- the samples of the chunks

-- whether the samples of the chunks, one chunk after another, are those of the image in row order
abbrev pub is_in_order : ChunkLayout → Bool
is_in_order form = not (is_tile form.chunk_type) && not (is_planar form.planar)

-- the samples of a chunk out of all samples of an image, which are row by row and pixel by pixel; 0
-- for a sample beyond the image
unfoldable pub cut_out : PageRecord → List ℕ → ℕ → List ℕ
cut_out p samples k =
    let r = rect p k in
    tabulate (chunk_samples p k) (λ n.
    let row = n / row_samples p in
    let column = n % row_samples p / stored_samples p in
    let sample = planar_or p.planar r.plane (n % stored_samples p) in
    if nat_lt row r.height && nat_lt column r.width
    then slice_index samples (((r.y + row) * p.width + (r.x + column)) * p.samples + sample)
    else 0)

-- the samples that `write_data` passes to the chunk after k others: the next samples in row order,
-- or the samples cut out of the image
abbrev pub part : OpenImage → List ℕ → ℕ → List ℕ
part i samples k =
    let p = image_page i in
    let chunk = length i.chunks + k in
    if is_in_order i.form
    then take (chunk_samples p chunk) (drop (k * (p.chunk_height * row_samples p)) samples)
    else cut_out p samples chunk

-- the samples that `write_data` passes to each chunk that is left
unfoldable pub parts_left : OpenImage → List ℕ → List (List ℕ)
parts_left i samples = tabulate (chunks_left i) (part i samples)

-- a sample of a pixel of a page whose chunks have these samples
unfoldable pub sample_in : PageRecord → List (List ℕ) → ℕ → ℕ → ℕ → ℕ
sample_in p chunks x y sample =
    slice_index (get_or chunks (chunk_of_pixel p (planar_or p.planar sample 0) x y) [])
    ((y % p.chunk_height * p.chunk_width + x % p.chunk_width) * stored_samples p
    + planar_or p.planar 0 sample)
