-- A plane of an image is its chunks, read one by one and placed (this project's).
use Rattle.std.specs.Prelude.{◌≡◌, ℕ, ◌+◌, ◌*◌, ◌/◌, ◌<◌, ◌≤◌, ◌↔◌, List, length, slice_index, Ok, Err}
use Rattle.std.specs.Result.{IsOk}
use Rattle.tiff_base.specs.declared.error.TiffError.{TiffError}
use Rattle.tiff_page.specs.Page.{PageRecord}
use Rattle.tiff_page.specs.Rect.{rect, chunks_of_plane}
use Rattle.tiff_page.specs.Layout.{LayoutRecord, layout_of, row_bits, row_bytes}
use Rattle.tiff_page.specs.Buffers.{planes_layout}
use Rattle.tiff_page.specs.Laws.{HasSides}
use Rattle.tiff_page.specs.PixelCalls.{planes_used}
use Rattle.tiff_decode.specs.Machine.{Decoding}
use Rattle.tiff_decode.specs.Outcome as outcome

-- the layout of the page's image
abbrev pub IsLayout : PageRecord → LayoutRecord → Type 0
IsLayout p layout = layout_of p p.width p.height ≡ Ok layout

-- the number of chunks of the planes that a slice of `len` bytes holds whole
abbrev pub chunks_used : PageRecord → LayoutRecord → ℕ → ℕ
chunks_used p layout len = planes_used p layout len * chunks_of_plane p

-- the property holds for the chunks of the planes that a slice of `len` bytes holds whole
abbrev pub EachUsed : PageRecord → LayoutRecord → ℕ → (ℕ → Type 0) → Type 0
EachUsed p layout len Is = (i : ℕ) → i < chunks_used p layout len → Is i

-- the planes of the image have this layout, and a slice of `len` bytes has room for one
pub record HasRoom (p : PageRecord) (layout : LayoutRecord) (len : ℕ) : Type 0 where
  pub laid : planes_layout p p.width p.height ≡ Ok layout
  pub room : layout.plane_stride ≤ len

-- the number of bytes of a row of a chunk
abbrev pub chunk_row : PageRecord → LayoutRecord → ℕ → ℕ
chunk_row p layout i = row_bytes p layout.color (rect p i).width

-- where byte b of row r of a chunk is: in a slice of that chunk, and in a slice of the image's
-- planes
abbrev pub at_chunk : PageRecord → LayoutRecord → ℕ → ℕ → ℕ → ℕ
at_chunk p layout i r b = r * chunk_row p layout i + b

abbrev pub at_image : PageRecord → LayoutRecord → ℕ → ℕ → ℕ → ℕ
at_image p layout i r b =
    ((rect p i).plane * p.height + (rect p i).y + r) * layout.row_bytes + row_bits p layout.color
    (rect p i).x / 8 + b

-- The image contains each byte of each row of a chunk.
pub record IsPlacedIn (p : PageRecord) (layout : LayoutRecord) (i : ℕ) (chunk image : List ℕ) : Type
    0 where
  pub each : (r b : ℕ) → r < (rect p i).height → b < chunk_row p layout i
      → slice_index image (at_image p layout i r b) ≡ slice_index chunk (at_chunk p layout i r b)

-- after an image is read into a slice, the slice contains each chunk, as it is read alone, of the
-- planes that it holds whole
abbrev pub PlaneOfChunks : Type 0
PlaneOfChunks = (d : Decoding) (layout : LayoutRecord) (buf image part chunk : List ℕ) (i : ℕ)
    → HasSides d.state.page → IsLayout d.state.page layout
    → i < chunks_used d.state.page layout (length buf)
    → (outcome.read_image_bytes d buf).answer ≡ Ok image
    → (outcome.read_chunk_bytes d i part).answer ≡ Ok chunk
    → IsPlacedIn d.state.page layout i chunk image

-- a byte of the planes belongs to a row of one of their chunks
pub record ByteIsOfChunk (p : PageRecord) (layout : LayoutRecord) (planes at : ℕ) : Type 0 where
  pub chunk : ℕ
  pub row : ℕ
  pub byte : ℕ
  pub used : chunk < planes * chunks_of_plane p
  pub in_chunk : row < (rect p chunk).height
  pub in_row : byte < chunk_row p layout chunk
  pub here : at ≡ at_image p layout chunk row byte

-- each byte of the planes belongs to a row of one of their chunks
abbrev pub PlanesCovered : Type 0
PlanesCovered = (p : PageRecord) (layout : LayoutRecord) (planes at : ℕ) → HasSides p
    → IsLayout p layout → at < planes * layout.plane_stride
    → ByteIsOfChunk p layout planes at

-- a chunk was read alone, into a slice of its own, and placed
abbrev pub IsReadAndPlaced : Decoding → LayoutRecord → List ℕ → ℕ → Type 0
IsReadAndPlaced d layout made i =
    (part chunk : List ℕ)
    × (((outcome.read_chunk_bytes d i part).answer ≡ Ok chunk)
    × IsPlacedIn d.state.page layout i chunk made)

-- A slice was made of chunks: each chunk of the planes that it holds was read and placed, and the
-- bytes after them are unchanged.
pub record IsMadeOfChunks (d : Decoding) (layout : LayoutRecord) (buf made : List ℕ) : Type 0 where
  pub long : length made ≡ length buf
  pub placed : EachUsed d.state.page layout (length buf) (IsReadAndPlaced d layout made)
  pub stays : (at : ℕ) → planes_used d.state.page layout (length buf) * layout.plane_stride ≤ at
      → at < length buf
      → slice_index made at ≡ slice_index buf at

-- reading an image into a slice that has room gives exactly the slice that its chunks make
abbrev pub ImageIsItsChunks : Type 0
ImageIsItsChunks = (d : Decoding) (layout : LayoutRecord) (buf made : List ℕ)
    → HasSides d.state.page → HasRoom d.state.page layout (length buf)
    → ((outcome.read_image_bytes d buf).answer ≡ Ok made) ↔ IsMadeOfChunks d layout buf made

-- ---- where chunks are read

-- the number of bytes of a chunk
abbrev pub chunk_byte_count : PageRecord → LayoutRecord → ℕ → ℕ
chunk_byte_count p layout i = chunk_row p layout i * (rect p i).height

-- a chunk is read into each slice that has room for it
abbrev pub IsChunkRead : Decoding → LayoutRecord → ℕ → Type 0
IsChunkRead d layout i = (part : List ℕ) → chunk_byte_count d.state.page layout i ≤ length part
    → IsOk (outcome.read_chunk_bytes d i part).answer

-- an image is read into a slice that has room exactly if each chunk of the planes that the slice
-- holds is read
abbrev pub ReadWhereChunks : Type 0
ReadWhereChunks = (d : Decoding) (buf : List ℕ) → HasSides d.state.page
    → (IsOk (outcome.read_image_bytes d buf).answer
    → (layout : LayoutRecord)
    × (HasRoom d.state.page layout (length buf)
    × EachUsed d.state.page layout (length buf) (IsChunkRead d layout)))
    × ((layout : LayoutRecord) → HasRoom d.state.page layout (length buf)
    → EachUsed d.state.page layout (length buf) (λ i. (part : List ℕ)
    × IsOk (outcome.read_chunk_bytes d i part).answer)
    → IsOk (outcome.read_image_bytes d buf).answer)

-- a chunk is refused with this error, in each slice that has room for it
abbrev pub IsChunkRefused : Decoding → LayoutRecord → TiffError → ℕ → Type 0
IsChunkRefused d layout e i =
    (part : List ℕ) → chunk_byte_count d.state.page layout i ≤ length part
    → (outcome.read_chunk_bytes d i part).answer ≡ Err e

-- Chunk k of a plane is the first that is refused, with this error: the chunks before it are read
-- in each plane, and chunk k is read in the planes before.
pub record IsFirstRefused (d : Decoding) (layout : LayoutRecord) (planes plane k : ℕ)
    (e : TiffError) : Type 0 where
  pub used : plane < planes
  pub of_plane : k < chunks_of_plane d.state.page
  pub refused : IsChunkRefused d layout e (plane * chunks_of_plane d.state.page + k)
  pub before : (n j : ℕ) → n < planes → j < k
      → IsChunkRead d layout (n * chunks_of_plane d.state.page + j)
  pub above : (n : ℕ) → n < plane → IsChunkRead d layout (n * chunks_of_plane d.state.page + k)

-- an image that has room is refused with the error of the first chunk that is refused
abbrev pub RefusedWhereChunks : Type 0
RefusedWhereChunks = (d : Decoding) (layout : LayoutRecord) (buf : List ℕ) (e : TiffError)
    → HasSides d.state.page → HasRoom d.state.page layout (length buf)
    → ((outcome.read_image_bytes d buf).answer ≡ Err e
    → (plane k : ℕ)
    × IsFirstRefused d layout (planes_used d.state.page layout (length buf)) plane k e)
    × ((plane k : ℕ)
    → IsFirstRefused d layout (planes_used d.state.page layout (length buf)) plane k e
    → (outcome.read_image_bytes d buf).answer ≡ Err e)
