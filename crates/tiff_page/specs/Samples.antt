-- Samples by their number type, and requests to read them.
use Rattle.std.specs.Prelude.{◌≡◌, ℕ, ◌*◌, ◌<◌, ◌≤◌, ◌⊎◌, List, map, Result, Ok}
use Rattle.std.specs.Int.{w8, w16, w32, w64, cast_unsigned}
use Rattle.tiff_base.specs.declared.color.ColorType.{ColorType}
use Rattle.tiff_base.specs.declared.error.TiffError.{TiffError}
use Rattle.tiff_base.specs.SourceAndSink.{SourceRecord}
use Rattle.tiff_page.specs.declared.layout.DecodingSampleType.{DecodingSampleType}
use Rattle.tiff_page.specs.declared.layout.DecodingSampleType.TheVariants as type
use Rattle.tiff_page.specs.declared.layout.PlaneLayout.{PlaneLayout}
use Rattle.tiff_page.specs.declared.page_reader.PageReader.{PageReader}
use Rattle.tiff_page.specs.declared.samples.ReadRequest.{ReadRequest}
use Rattle.tiff_page.specs.declared.samples.ReadRequest.TheVariants.{Image, Chunks}
use Rattle.tiff_page.specs.declared.samples.Samples.{Samples}
use Rattle.tiff_page.specs.declared.samples.Samples.TheVariants as numbers
use Rattle.tiff_page.specs.EarlyFaults.{check_first_chunk}
use Rattle.tiff_page.specs.Image.{Decoded}
use Rattle.tiff_page.specs.Layout.{color_of, layout_of, row_bytes}
use Rattle.tiff_page.specs.Page.{PageRecord}
use Rattle.tiff_page.specs.PageView as view
use Rattle.tiff_page.specs.PixelCalls.{Part, image_part, chunk_part, fill_buffer, samples}
use Rattle.tiff_page.specs.Reach.{PartReadable}
use Rattle.tiff_page.specs.Rect.{rect, chunks_of_plane}

-- samples as their number type and the bits of each
abbrev pub samples_as : Samples → Decoded
samples_as (numbers.U8 v) = record { sample_type = type.U8; numbers = v.items }
samples_as (numbers.U16 v) = record { sample_type = type.U16; numbers = v.items }
samples_as (numbers.U32 v) = record { sample_type = type.U32; numbers = v.items }
samples_as (numbers.U64 v) = record { sample_type = type.U64; numbers = v.items }
samples_as (numbers.F16 v) = record { sample_type = type.F16; numbers = map (λ b. b.0) v.items }
samples_as (numbers.F32 v) = record { sample_type = type.F32; numbers = map (λ b. b.0) v.items }
samples_as (numbers.F64 v) = record { sample_type = type.F64; numbers = map (λ b. b.0) v.items }
samples_as (numbers.I8 v) =
    record { sample_type = type.I8; numbers = map (cast_unsigned w8) v.items }
samples_as (numbers.I16 v) =
    record { sample_type = type.I16; numbers = map (cast_unsigned w16) v.items }
samples_as (numbers.I32 v) =
    record { sample_type = type.I32; numbers = map (cast_unsigned w32) v.items }
samples_as (numbers.I64 v) =
    record { sample_type = type.I64; numbers = map (cast_unsigned w64) v.items }

abbrev pub color_in : ReadRequest → ColorType
color_in (Image layout planes) = layout.color
color_in (Chunks color i planes stride) = color

-- the first chunk of a request
abbrev pub first_in : ReadRequest → ℕ
first_in (Image layout planes) = 0
first_in (Chunks color i planes stride) = i

-- the part of a page that a request reads
abbrev pub part_of : PageRecord → ReadRequest → Part
part_of p (Image layout planes) = image_part p planes layout.row_bytes
part_of p (Chunks color i planes stride) = chunk_part p i planes stride

-- an image has the layout of its page
pub record IsLaidImage (p : PageRecord) (layout : PlaneLayout) (planes : ℕ) : Type 0 where
  pub laid : layout_of p p.width p.height ≡ Ok (view.layout layout)
  pub some : 0 < planes

-- a chunk, or the chunk of each of several planes, has the color of its page, and rows that don't
-- overlap
pub record IsLaidChunks (p : PageRecord) (color : ColorType) (i planes stride : ℕ) : Type 0 where
  pub colored : color_of p ≡ Ok color
  pub columns : row_bytes p color (rect p i).width ≤ stride
  pub some : 0 < planes
  pub which : (planes ≡ 1) ⊎ (i < chunks_of_plane p)

abbrev pub IsLaid : PageRecord → ReadRequest → Type 0
IsLaid p (Image layout planes) = IsLaidImage p layout planes
IsLaid p (Chunks color i planes stride) = IsLaidChunks p color i planes stride

-- the number of bytes that a request takes
abbrev pub room_of : PageRecord → ReadRequest → ℕ
room_of p (Image layout planes) = planes * layout.plane_stride
room_of p (Chunks color i planes stride) = planes * ((rect p i).height * stride)

-- a request to a reader, whose source has the bytes of a file
module _ (file : List ℕ) (reader : PageReader) (request : ReadRequest) where
  -- the first error that is found before memory is allocated for samples in `len` bytes
  abbrev pub request_early : DecodingSampleType → ℕ → Result (Unit {0}) TiffError
  request_early kind len =
      check_first_chunk file (view.page reader.page.now) reader.limits.now (color_in request) kind
      (first_in request) len

  -- the bytes of a buffer into which the part is read
  abbrev pub request_bytes : List ℕ → Result (List ℕ) TiffError
  request_bytes buf =
      fill_buffer file reader.order (view.page reader.page.now) reader.limits.now
      (color_in request) (part_of (view.page reader.page.now) request) buf

  -- the samples of the part, in `len` bytes
  abbrev pub request_samples : ℕ → Result Decoded TiffError
  request_samples len =
      samples file reader.order (view.page reader.page.now) reader.limits.now
      (color_in request) (part_of (view.page reader.page.now) request) len

-- A source can read the bytes that are needed of each chunk of a request.
abbrev pub RequestReadable : SourceRecord → PageReader → ReadRequest → Type 0
RequestReadable source reader request =
    PartReadable source (view.page reader.page.now) (color_in request)
    (part_of (view.page reader.page.now) request)
