-- The steps by which the samples of a whole image are written.
use Rattle.std.specs.Prelude.{◌≡◌, ℕ, ◌+◌, ◌*◌, ◌/◌, ◌%◌, ◌<◌, ◌≤◌, ◌&&◌, ◌⊎◌, List, length, take, drop, slice_index, nat_lt, Result, Ok, Err, if◌then◌else◌}
use Rattle.tiff_base.specs.declared.error.TiffError.{TiffError}
use Rattle.tiff_base.specs.declared.error.TiffError.TheVariants.{OutOfMemory}
use Rattle.tiff_base.specs.declared.tags.PlanarConfiguration.TheVariants.{Planar}
use Rattle.tiff_page.specs.Page.{PageRecord}
use Rattle.tiff_page.specs.Pixels.{planar_or, stored_samples}
use Rattle.tiff_page.specs.Rect.{RectRecord}
use Rattle.tiff_encode.specs.declared.encoder.image.data.ChunkArea.{ChunkArea}
use Rattle.tiff_encode.specs.Machine.{FileState, OpenImage}
use Rattle.tiff_encode.specs.Chunks.{image_page, row_samples, chunk_samples, is_in_order, cut_out}
use Rattle.tiff_encode.specs.Calls as calls
use Rattle.tiff_encode.specs.Ends.{EndsAsDefined, AppendFailed}
use Rattle.tiff_encode.specs.Stored.{IsChunkStored}

-- the samples of the next chunk, after k chunks of these samples were written: the next ones in row
-- order, or those cut out of the image
abbrev pub next_slice : {A : Type 0} → OpenImage → List A → ℕ → List A
next_slice i samples k =
    let p = image_page i in
    take (chunk_samples p (length i.chunks))
    (drop (k * (p.chunk_height * row_samples p)) samples)

abbrev pub next_part : OpenImage → List ℕ → ℕ → List ℕ
next_part i samples k =
    if is_in_order i.form then next_slice i samples k
    else cut_out (image_page i) samples (length i.chunks)

-- a part of an image is written as its next chunk; or it is refused, or the sink fails; or there is
-- no memory, and nothing is done
abbrev pub WritesPart : {A : Type 0} → OpenImage → List ℕ → Result A TiffError → FileState
    → FileState → OpenImage → Type 0
WritesPart i part (Ok x) old new next =
    (stored : List ℕ)
    × (IsChunkStored i stored part
    × EndsAsDefined (calls.write_chunk i (length part) stored old) (Ok next) new)
WritesPart i part (Err e) old new next =
    ((e ≡ OutOfMemory) × (new ≡ old))
    ⊎ ((stored : List ℕ) × (IsChunkStored i stored part
    × (EndsAsDefined (calls.write_chunk i (length part) stored old) (Err e) new
    ⊎ AppendFailed (calls.write_chunk i (length part) stored old).ops e old new)))

-- the part of an image that a chunk contains, as a rectangle
abbrev pub rect_of : ChunkArea → RectRecord
rect_of p = record { plane = p.plane; x = p.x; y = p.y; width = p.width; height = p.height }

-- The rectangle is within the image and not wider than a chunk, and its plane is a plane of the
-- page.
pub record IsPatch (p : PageRecord) (r : RectRecord) : Type 0 where
  pub columns : r.x + r.width ≤ p.width
  pub rows : r.y + r.height ≤ p.height
  pub narrow : r.width ≤ p.chunk_width
  pub plane : p.planar ≡ Planar → r.plane < p.samples

-- sample n of a row of a chunk, if it is in a rectangle of the image
abbrev pub pixel_sample : PageRecord → List ℕ → RectRecord → ℕ → ℕ → ℕ
pixel_sample p samples r row n =
    slice_index samples
    (((r.y + row) * p.width + (r.x + n / stored_samples p)) * p.samples + planar_or p.planar r.plane
    (n % stored_samples p))

-- sample n of a row of a chunk: that of the image in a rectangle, and 0 beyond the rectangle
abbrev pub row_sample : PageRecord → List ℕ → RectRecord → ℕ → ℕ → ℕ
row_sample p samples r row n =
    if nat_lt row r.height && nat_lt (n / stored_samples p) r.width
    then pixel_sample p samples r row n else 0
