-- The planes of a coding unit are its chunks, read one by one and placed (this project's).
use Rattle.std.specs.Prelude.{◌≡◌, ℕ, ◌+◌, ◌*◌, ◌<◌, ◌≤◌, ◌↔◌, List, length, slice_index, Ok, Err}
use Rattle.std.specs.Result.{IsOk}
use Rattle.tiff_base.specs.declared.error.TiffError.{TiffError}
use Rattle.tiff_page.specs.Page.{PageRecord}
use Rattle.tiff_page.specs.Rect.{rect, chunks_of_plane}
use Rattle.tiff_page.specs.Layout.{LayoutRecord}
use Rattle.tiff_page.specs.Buffers.{planes_layout}
use Rattle.tiff_page.specs.Laws.{HasSides}
use Rattle.tiff_page.specs.PixelCalls.{planes_used}
use Rattle.tiff_decode.specs.Machine.{Decoding}
use Rattle.tiff_decode.specs.Outcome as outcome
use Rattle.tiff_laws.specs.Whole.{IsChunkRead, IsChunkRefused}

-- a coding unit is one of the chunks of a plane, each plane of it has this layout, and a slice of
-- `len` bytes has room for one
pub record HasUnitRoom (p : PageRecord) (layout : LayoutRecord) (unit len : ℕ) : Type 0 where
  pub laid : planes_layout p (rect p unit).width (rect p unit).height ≡ Ok layout
  pub listed : unit < chunks_of_plane p
  pub room : layout.plane_stride ≤ len

-- the chunk of a coding unit in a plane
abbrev pub unit_chunk : PageRecord → ℕ → ℕ → ℕ
unit_chunk p unit plane = plane * chunks_of_plane p + unit

-- the property holds for the chunks of a unit in the planes that a slice of `len` bytes holds whole
abbrev pub EachPlane : PageRecord → LayoutRecord → ℕ → ℕ → (ℕ → Type 0) → Type 0
EachPlane p layout unit len Is = (plane : ℕ) → plane < planes_used p layout len
    → Is (unit_chunk p unit plane)

-- A slice contains each byte of a chunk, after the chunks of the planes before it.
pub record IsBehind (layout : LayoutRecord) (plane : ℕ) (chunk made : List ℕ) : Type 0 where
  pub each : (k : ℕ) → k < layout.plane_stride
      → slice_index made (plane * layout.plane_stride + k) ≡ slice_index chunk k

-- the chunk of a plane was read alone, into a slice of its own, and placed
abbrev pub IsPlaneRead : Decoding → LayoutRecord → ℕ → List ℕ → ℕ → Type 0
IsPlaneRead d layout unit made plane =
    (part chunk : List ℕ)
    × (((outcome.read_chunk_bytes d (unit_chunk d.state.page unit plane) part).answer
    ≡ Ok chunk) × IsBehind layout plane chunk made)

-- A slice was made of a unit: the chunk of each plane that it holds was read and placed, and the
-- bytes after them are unchanged.
pub record IsMadeOfUnit (d : Decoding) (layout : LayoutRecord) (unit : ℕ) (buf made : List ℕ) : Type
    0 where
  pub long : length made ≡ length buf
  pub placed : (plane : ℕ) → plane < planes_used d.state.page layout (length buf)
      → IsPlaneRead d layout unit made plane
  pub stays : (at : ℕ) → planes_used d.state.page layout (length buf) * layout.plane_stride ≤ at
      → at < length buf
      → slice_index made at ≡ slice_index buf at

-- reading a unit into a slice that has room gives exactly the slice that its chunks make
abbrev pub UnitIsItsChunks : Type 0
UnitIsItsChunks = (d : Decoding) (layout : LayoutRecord) (unit : ℕ) (buf made : List ℕ)
    → HasSides d.state.page
    → HasUnitRoom d.state.page layout unit (length buf)
    → ((outcome.read_coding_unit_bytes d unit buf).answer ≡ Ok made) ↔ IsMadeOfUnit d layout unit
    buf made

-- a unit is read into a slice that has room exactly if the chunk of each plane that the slice holds
-- is read
abbrev pub UnitWhereChunks : Type 0
UnitWhereChunks = (d : Decoding) (unit : ℕ) (buf : List ℕ) → HasSides d.state.page
    → (IsOk (outcome.read_coding_unit_bytes d unit buf).answer
    → (layout : LayoutRecord)
    × (HasUnitRoom d.state.page layout unit (length buf)
    × EachPlane d.state.page layout unit (length buf) (IsChunkRead d layout)))
    × ((layout : LayoutRecord) → HasUnitRoom d.state.page layout unit (length buf)
    → EachPlane d.state.page layout unit (length buf) (λ i. (part : List ℕ)
    × IsOk (outcome.read_chunk_bytes d i part).answer)
    → IsOk (outcome.read_coding_unit_bytes d unit buf).answer)

-- The chunk of this plane is the first chunk of a unit that is refused, with this error.
pub record IsFirstPlaneRefused (d : Decoding) (layout : LayoutRecord) (unit planes plane : ℕ)
    (e : TiffError) : Type 0 where
  pub used : plane < planes
  pub refused : IsChunkRefused d layout e (unit_chunk d.state.page unit plane)
  pub before : (n : ℕ) → n < plane → IsChunkRead d layout (unit_chunk d.state.page unit n)

-- a unit that has room is refused with the error of the first of its chunks that is refused
abbrev pub UnitRefusedWhereChunks : Type 0
UnitRefusedWhereChunks =
    (d : Decoding) (layout : LayoutRecord) (unit : ℕ) (buf : List ℕ) (e : TiffError)
    → HasSides d.state.page
    → HasUnitRoom d.state.page layout unit (length buf)
    → ((outcome.read_coding_unit_bytes d unit buf).answer ≡ Err e
    → (plane : ℕ)
    × IsFirstPlaneRefused d layout unit (planes_used d.state.page layout (length buf)) plane e)
    × ((plane : ℕ)
    → IsFirstPlaneRefused d layout unit (planes_used d.state.page layout (length buf)) plane
    e
    → (outcome.read_coding_unit_bytes d unit buf).answer ≡ Err e)
