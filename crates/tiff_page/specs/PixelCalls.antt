-- The results of the calls that read pixels: the first error, or the bytes or samples (the order of
-- errors is this project's).
use Rattle.std.specs.Prelude.{ℕ, ◌+◌, ◌*◌, ◌/◌, min, List, length, replicate, slice_index, unwrap_or, Result, Ok, if◌then◌else◌, nat_lt, nat_le}
use Rattle.tiff_base.specs.declared.color.ColorType.{ColorType}
use Rattle.tiff_base.specs.declared.error.TiffError.{TiffError}
use Rattle.tiff_base.specs.declared.error.TiffError.TheVariants.{UsageError}
use Rattle.tiff_base.specs.declared.error.UsageError.TheVariants.{InsufficientOutputBufferSize, InsufficientOutputRowStride}
use Rattle.tiff_base.specs.declared.tags.ByteOrder.{ByteOrder}
use Rattle.tiff_base.specs.Answers.{◌>>=◌}
use Rattle.tiff_ifd.specs.declared.limits.Limits.{Limits}
use Rattle.tiff_page.specs.declared.layout.BufferLayoutPreference.{BufferLayoutPreference}
use Rattle.tiff_page.specs.Page.{PageRecord}
use Rattle.tiff_page.specs.Rect.{rect, chunks_of_plane}
use Rattle.tiff_page.specs.Layout.{LayoutRecord, planes, wide, sample_type_of, size_of}
use Rattle.tiff_page.specs.PixelFault.{fail_if, limit_fault, each_below, chunk_fault}
use Rattle.tiff_page.specs.Pixels.{tabulate, Region, image_region, chunk_region, byte_at, is_short}
use Rattle.tiff_page.specs.Image.{Decoded, decoded_samples}
use Rattle.tiff_page.specs.Buffers.{planes_layout, all_planes, unit_fault}

-- a slice has room for one plane
abbrev pub room_fault : ℕ → ℕ → Result (Unit {0}) TiffError
room_fault provided needed =
    fail_if (nat_lt provided needed) (UsageError (InsufficientOutputBufferSize needed provided))

-- rows that are a stride apart don't overlap
abbrev pub stride_fault : ℕ → ℕ → Result (Unit {0}) TiffError
stride_fault stride row_bytes =
    fail_if (nat_lt stride row_bytes) (UsageError (InsufficientOutputRowStride row_bytes stride))

-- how many whole planes a slice of `len` bytes holds
abbrev pub planes_used : PageRecord → LayoutRecord → ℕ → ℕ
planes_used p layout len = min (planes p.planar layout.color) (len / layout.plane_stride)

-- what a call reads: `count` chunks of a plane from the `first` on, in `planes` planes, and where
-- their bytes go: a region of the image, with rows a stride apart
pub record Part : Type 0 where
  pub first : ℕ
  pub count : ℕ
  pub planes : ℕ
  pub region : Region
  pub stride : ℕ

-- all chunks of an image
abbrev pub image_part : PageRecord → ℕ → ℕ → Part
image_part p planes stride =
    record {
      first = 0;
      count = chunks_of_plane p;
      planes = planes;
      region = image_region p;
      stride = stride;
    }

-- one chunk
abbrev pub chunk_part : PageRecord → ℕ → ℕ → ℕ → Part
chunk_part p i planes stride =
    record { first = i; count = 1; planes = planes; region = chunk_region p i; stride = stride }

-- a file, its byte order, and a page of it
module _ (file : List ℕ) (order : ByteOrder) (p : PageRecord) where
  -- the first error of the chunks of a part: that of the first chunk, and in it of the first plane,
  -- that has one
  abbrev pub part_fault : Limits → ColorType → Part → Result (Unit {0}) TiffError
  part_fault limits color part =
      each_below
      (λ j. each_below
      (λ plane.
      chunk_fault p limits (is_short file order p color) color
      (plane * chunks_of_plane p + (part.first + j))) part.planes)
      part.count

  -- the bytes of a buffer after a region is placed in it, in planes of rows a stride apart: bytes
  -- outside the rows are unchanged
  unfoldable pub bytes_with_region : ColorType → Region → ℕ → ℕ → List ℕ → List ℕ
  bytes_with_region color region stride planes buf =
      tabulate (length buf)
      (λ i. unwrap_or (byte_at file order p color region stride planes i) (slice_index buf i))

  -- the result of a call that fills a buffer: the first error, or the bytes of the buffer
  unfoldable pub fill_buffer : Limits → ColorType → Part → List ℕ → Result (List ℕ) TiffError
  fill_buffer limits color part buf = do
    _ ← part_fault limits color part
    Ok (bytes_with_region color part.region part.stride part.planes buf)

  -- the samples of `len` bytes, which are zeros at first; the errors of the number type come first,
  -- then those of the limit, then those of the chunks
  unfoldable pub samples : Limits → ColorType → Part → ℕ → Result Decoded TiffError
  samples limits color part len = do
    type ← sample_type_of p
    _ ← limit_fault limits (size_of type) len
    bytes ← fill_buffer limits color part (replicate len 0)
    Ok (decoded_samples type bytes)

-- the samples of an image, or of the first plane of a planar image
unfoldable pub image_of : List ℕ → ByteOrder → PageRecord → Limits → Result Decoded TiffError
image_of file order p limits = do
  layout ← planes_layout p p.width p.height
  samples file order p limits layout.color (image_part p 1 layout.row_bytes) layout.plane_stride

-- a slice after an image is read into it: as many whole planes as it holds
unfoldable pub read_image_bytes : List ℕ → ByteOrder → PageRecord → Limits → List ℕ
    → Result (List ℕ) TiffError
read_image_bytes file order p limits buf = do
  layout ← planes_layout p p.width p.height
  _ ← room_fault (length buf) layout.plane_stride
  fill_buffer file order p limits layout.color
      (image_part p (planes_used p layout (length buf)) layout.row_bytes) buf

-- the number of all planes of an image if their bytes are within the limit, else 1
abbrev pub planes_within : PageRecord → Limits → LayoutRecord → ℕ
planes_within p limits layout =
    let all = planes p.planar layout.color in
    if nat_le (layout.plane_stride * all) limits.decoding_buffer_size then all else 1

-- the samples of all planes of an image, or of the first plane if not all are within the limit; the
-- layout is of all planes
unfoldable pub read_image_to_buffer : List ℕ → ByteOrder → PageRecord → Limits
    → Result (BufferLayoutPreference × Decoded) TiffError
read_image_to_buffer file order p limits = do
  layout ← planes_layout p p.width p.height
  let used = planes_within p limits layout
  numbers ← samples file order p limits layout.color (image_part p used layout.row_bytes)
      (layout.plane_stride * used)
  Ok (all_planes p layout, numbers)

-- the samples of a chunk
unfoldable pub read_chunk : List ℕ → ByteOrder → PageRecord → Limits → ℕ → Result Decoded TiffError
read_chunk file order p limits i = do
  layout ← planes_layout p (rect p i).width (rect p i).height
  samples file order p limits layout.color (chunk_part p i 1 layout.row_bytes) layout.plane_stride

-- a slice after one plane of a chunk is read into it
unfoldable pub read_chunk_bytes : List ℕ → ByteOrder → PageRecord → Limits → ℕ → List ℕ
    → Result (List ℕ) TiffError
read_chunk_bytes file order p limits i buf = do
  layout ← planes_layout p (rect p i).width (rect p i).height
  _ ← room_fault (length buf) layout.plane_stride
  fill_buffer file order p limits layout.color (chunk_part p i 1 layout.row_bytes) buf

-- the samples of a chunk in rows a stride apart, with zeros between them
unfoldable pub read_chunk_to_buffer : List ℕ → ByteOrder → PageRecord → Limits → ℕ → ℕ
    → Result Decoded TiffError
read_chunk_to_buffer file order p limits i stride = do
  layout ← planes_layout p (rect p i).width (rect p i).height
  _ ← stride_fault stride layout.row_bytes
  _ ← wide (stride * p.chunk_height)
  samples file order p limits layout.color (chunk_part p i 1 stride) (stride * (rect p i).height)

-- a slice after a coding unit is read into it: the chunk of as many planes as it holds whole
unfoldable pub read_coding_unit_bytes : List ℕ → ByteOrder → PageRecord → Limits → ℕ → List ℕ
    → Result (List ℕ) TiffError
read_coding_unit_bytes file order p limits unit buf = do
  layout ← planes_layout p (rect p unit).width (rect p unit).height
  _ ← unit_fault p unit
  _ ← room_fault (length buf) layout.plane_stride
  fill_buffer file order p limits layout.color
      (chunk_part p unit (planes_used p layout (length buf)) layout.row_bytes) buf
