-- Samples are the numbers of the bytes that are read into a slice of zeros (this project's).
use Rattle.std.specs.Prelude.{◌≡◌, ℕ, ◌*◌, ◌↔◌, List, Result, Ok, Err, replicate}
use Rattle.tiff_base.specs.declared.error.TiffError.{TiffError}
use Rattle.tiff_base.specs.Answers.{◌>>=◌}
use Rattle.tiff_page.specs.declared.layout.BufferLayoutPreference.{BufferLayoutPreference}
use Rattle.tiff_page.specs.declared.layout.DecodingSampleType.{DecodingSampleType}
use Rattle.tiff_page.specs.Rect.{rect}
use Rattle.tiff_page.specs.Layout.{LayoutRecord, sample_type_of, size_of}
use Rattle.tiff_page.specs.PixelCalls.{planes_within}
use Rattle.tiff_page.specs.PixelFault.{limit_fault}
use Rattle.tiff_page.specs.Image.{Decoded, decoded_samples}
use Rattle.tiff_page.specs.Buffers.{planes_layout, all_planes}
use Rattle.tiff_page.specs.Laws.{HasSides}
use Rattle.tiff_decode.specs.Machine.{Decoding}
use Rattle.tiff_decode.specs.Outcome as outcome
use Rattle.tiff_laws.specs.Sides.{HasSamples}
use Rattle.tiff_laws.specs.Whole.{IsFirstRefused, IsMadeOfChunks}

-- the numbers of bytes that are read into `len` zeros; the errors of the page's number type come
-- first, then those of the limit, then those of the read
abbrev pub numbers_by : Decoding → (List ℕ → Result (List ℕ) TiffError) → ℕ
    → Result Decoded TiffError
numbers_by d read len = do
  type ← sample_type_of d.state.page
  _ ← limit_fault d.state.limits (size_of type) len
  bytes ← read (replicate len 0)
  Ok (decoded_samples type bytes)

-- the bytes of an image, or of a chunk, in a slice
abbrev pub image_read : Decoding → List ℕ → Result (List ℕ) TiffError
image_read d buf = (outcome.read_image_bytes d buf).answer

abbrev pub chunk_read : Decoding → ℕ → List ℕ → Result (List ℕ) TiffError
chunk_read d i buf = (outcome.read_chunk_bytes d i buf).answer

-- the samples of an image, from the bytes of one plane
abbrev pub image_by_bytes : Decoding → Result Decoded TiffError
image_by_bytes d = do
  layout ← planes_layout d.state.page d.state.page.width d.state.page.height
  numbers_by d (image_read d) layout.plane_stride

-- the planes within the limit: all, or the first
abbrev pub planes_let : Decoding → LayoutRecord → ℕ
planes_let d layout = planes_within d.state.page d.state.limits layout

-- the samples of an image, from the bytes of the planes within the limit, with the layout of all
-- planes
abbrev pub buffer_by_bytes : Decoding → Result (BufferLayoutPreference × Decoded) TiffError
buffer_by_bytes d = do
  layout ← planes_layout d.state.page d.state.page.width d.state.page.height
  numbers ← numbers_by d (image_read d) (layout.plane_stride * planes_let d layout)
  Ok (all_planes d.state.page layout, numbers)

-- the samples of a chunk, from its bytes
abbrev pub chunk_by_bytes : Decoding → ℕ → Result Decoded TiffError
chunk_by_bytes d i = do
  layout ← planes_layout d.state.page (rect d.state.page i).width (rect d.state.page i).height
  numbers_by d (chunk_read d i) layout.plane_stride

-- the calls that return samples return the samples from these bytes, or the first error
abbrev pub ImageByBytes : Type 0
ImageByBytes = (d : Decoding) → HasSides d.state.page → HasSamples d.state.page
    → (outcome.read_image d).answer ≡ image_by_bytes d

abbrev pub BufferByBytes : Type 0
BufferByBytes = (d : Decoding) → HasSides d.state.page → HasSamples d.state.page
    → (outcome.read_image_to_buffer d).answer ≡ buffer_by_bytes d

abbrev pub ChunkByBytes : Type 0
ChunkByBytes = (d : Decoding) (i : ℕ) → (outcome.read_chunk d i).answer ≡ chunk_by_bytes d i

-- The planes of the image have this layout, its numbers have this type, and the limit allows the
-- numbers of `len` bytes.
pub record HasNumbers (d : Decoding) (layout : LayoutRecord) (type : DecodingSampleType) (len : ℕ)
    : Type 0 where
  pub laid : planes_layout d.state.page d.state.page.width d.state.page.height ≡ Ok layout
  pub typed : sample_type_of d.state.page ≡ Ok type
  pub few : limit_fault d.state.limits (size_of type) len ≡ Ok tt

-- these are the numbers of the bytes that the chunks of an image make, read one by one and placed
-- into `len` zeros
abbrev pub AreOfChunks : Decoding → LayoutRecord → DecodingSampleType → ℕ → Decoded → Type 0
AreOfChunks d layout type len numbers = (made : List ℕ)
    × (IsMadeOfChunks d layout (replicate len 0) made × (decoded_samples type made ≡ numbers))

-- the samples of an image are the numbers of the bytes that the chunks of one plane make; the image
-- is refused with the error of the first of these chunks that is refused
abbrev pub SamplesOfChunks : Type 0
SamplesOfChunks = (d : Decoding) (layout : LayoutRecord) (type : DecodingSampleType)
    → HasSides d.state.page → HasSamples d.state.page
    → HasNumbers d layout type layout.plane_stride
    → ((x : Decoded)
    → ((outcome.read_image d).answer ≡ Ok x) ↔ AreOfChunks d layout type layout.plane_stride
    x)
    × ((e : TiffError)
    → ((outcome.read_image d).answer ≡ Err e) ↔ ((plane k : ℕ)
    × IsFirstRefused d layout 1 plane k e))

-- the samples of the planes within the limit are the numbers of the bytes that the chunks of these
-- planes make; the planes are refused with the error of the first of these chunks that is refused
abbrev pub BufferOfChunks : Type 0
BufferOfChunks = (d : Decoding) (layout : LayoutRecord) (type : DecodingSampleType)
    → HasSides d.state.page → HasSamples d.state.page
    → HasNumbers d layout type (layout.plane_stride * planes_let d layout)
    → ((x : Decoded)
    → ((outcome.read_image_to_buffer d).answer ≡ Ok (all_planes d.state.page layout, x))
    ↔ AreOfChunks d layout type (layout.plane_stride * planes_let d layout) x)
    × ((e : TiffError)
    → ((outcome.read_image_to_buffer d).answer ≡ Err e) ↔ ((plane k : ℕ)
    × IsFirstRefused d layout (planes_let d layout) plane k e))
