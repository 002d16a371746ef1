-- Errors that the decoder finds before it allocates memory for samples.
use Rattle.std.specs.Prelude.{◌≡◌, ℕ, ◌*◌, Bool, nat_lt, List, slice_index, Result, Ok, Err}
use Rattle.tiff_base.specs.declared.color.ColorType.{ColorType}
use Rattle.tiff_base.specs.declared.error.TiffError.{TiffError}
use Rattle.tiff_base.specs.declared.error.TiffError.TheVariants.{OutOfMemory}
use Rattle.tiff_base.specs.Answers.{◌>>=◌}
use Rattle.tiff_base.specs.Sparing.{IsOkOrList}
use Rattle.tiff_ifd.specs.declared.limits.Limits.{Limits}
use Rattle.tiff_page.specs.declared.layout.DecodingSampleType.{DecodingSampleType}
use Rattle.tiff_page.specs.Page.{PageRecord}
use Rattle.tiff_page.specs.Buffers.{planes_layout, unit_fault}
use Rattle.tiff_page.specs.Layout.{sample_type_of, size_of, wide}
use Rattle.tiff_page.specs.Methods.{bytes_held, least_stored}
use Rattle.tiff_page.specs.PixelCalls.{planes_within, room_fault, stride_fault}
use Rattle.tiff_page.specs.PixelFault.{limit_fault, chunk_fault, form_fault}
use Rattle.tiff_page.specs.Pixels.{needed_bytes}
use Rattle.tiff_page.specs.Rect.{rect}

-- a file has fewer bytes of a chunk than the data of the chunk take at least
abbrev pub is_cut : List ℕ → PageRecord → ColorType → ℕ → Bool
is_cut file p color i =
    nat_lt (bytes_held file p.method (slice_index p.offsets i) (slice_index p.byte_counts i))
    (least_stored p.method (needed_bytes p color i))

-- the error that is found before memory is allocated for samples of `len` bytes: more samples than
-- fit into the limit, or the errors of the first chunk, whose data are too few if the file has too
-- few bytes for them
abbrev pub check_first_chunk : List ℕ → PageRecord → Limits → ColorType → DecodingSampleType → ℕ → ℕ
    → Result (Unit {0}) TiffError
check_first_chunk file p limits color type first len = do
  _ ← limit_fault limits (size_of type) len
  chunk_fault p limits (is_cut file p color) color first

-- ---- when memory is out

-- A call runs out of memory only if this holds.
abbrev pub WantsWhere : {X : Type 0} → Type 0 → Result X TiffError → Type 0
WantsWhere holds (Ok x) = Unit {0}
WantsWhere holds (Err e) = e ≡ OutOfMemory → holds

-- A call runs out of memory only if no error is found early, or an error that contains a list. It
-- doesn't run out of memory if a limit refuses the request, if the source ends before the last byte
-- that the first chunk needs at least, or if the form of the page or the call's own arguments are
-- refused.
abbrev pub AllocatesAfter : {X : Type 0} → Result (Unit {0}) TiffError → Result X TiffError → Type 0
AllocatesAfter early result = WantsWhere (IsOkOrList early) result

-- the error that is found before memory is allocated for samples of `len` bytes, of a color and
-- from a first chunk on
abbrev pub samples_early : List ℕ → PageRecord → Limits → ColorType → ℕ → ℕ
    → Result (Unit {0}) TiffError
samples_early file p limits color first len = do
  type ← sample_type_of p
  check_first_chunk file p limits color type first len

-- the early error of reading the samples of an image, or of the first plane of a planar image
abbrev pub image_early : List ℕ → PageRecord → Limits → Result (Unit {0}) TiffError
image_early file p limits = do
  layout ← planes_layout p p.width p.height
  samples_early file p limits layout.color 0 layout.plane_stride

-- the early error of reading the samples of all planes, or of the first plane if not all are within
-- the limit
abbrev pub planes_early : List ℕ → PageRecord → Limits → Result (Unit {0}) TiffError
planes_early file p limits = do
  layout ← planes_layout p p.width p.height
  let used = planes_within p limits layout
  samples_early file p limits layout.color 0 (layout.plane_stride * used)

-- the early error of reading the samples of a chunk
abbrev pub chunk_early : List ℕ → PageRecord → Limits → ℕ → Result (Unit {0}) TiffError
chunk_early file p limits i = do
  layout ← planes_layout p (rect p i).width (rect p i).height
  samples_early file p limits layout.color i layout.plane_stride

-- the early error of reading the samples of a chunk in rows a stride apart
abbrev pub strided_early : List ℕ → PageRecord → Limits → ℕ → ℕ → Result (Unit {0}) TiffError
strided_early file p limits i stride = do
  layout ← planes_layout p (rect p i).width (rect p i).height
  _ ← stride_fault stride layout.row_bytes
  _ ← wide (stride * p.chunk_height)
  samples_early file p limits layout.color i (stride * (rect p i).height)

-- ---- slices: the errors that are found before memory is allocated for their chunks
-- These are the errors of the layout, of the call's own arguments, and of the form of the first
-- chunk.

-- the early error of reading an image into a slice of `len` bytes
abbrev pub image_bytes_early : PageRecord → Limits → ℕ → Result (Unit {0}) TiffError
image_bytes_early p limits len = do
  layout ← planes_layout p p.width p.height
  _ ← room_fault len layout.plane_stride
  form_fault p limits layout.color 0

-- the early error of reading a chunk into a slice of `len` bytes
abbrev pub chunk_bytes_early : PageRecord → Limits → ℕ → ℕ → Result (Unit {0}) TiffError
chunk_bytes_early p limits i len = do
  layout ← planes_layout p (rect p i).width (rect p i).height
  _ ← room_fault len layout.plane_stride
  form_fault p limits layout.color i

-- the early error of reading a coding unit into a slice of `len` bytes
abbrev pub unit_bytes_early : PageRecord → Limits → ℕ → ℕ → Result (Unit {0}) TiffError
unit_bytes_early p limits unit len = do
  layout ← planes_layout p (rect p unit).width (rect p unit).height
  _ ← unit_fault p unit
  _ ← room_fault len layout.plane_stride
  form_fault p limits layout.color unit
