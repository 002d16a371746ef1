-- How buffers for decoded samples are laid out (as in the Rust crate; the order of errors is this
-- project's).
use Rattle.std.specs.Prelude.{ℕ, ◌*◌, ◌^◌, replicate, Option, Some, None, Result, Ok, Err, if◌then◌else◌, nat_lt}
use Rattle.std.specs.Int.{div_ceil}
use Rattle.tiff_base.specs.declared.error.TiffError.{TiffError}
use Rattle.tiff_base.specs.declared.error.TiffError.TheVariants.{UnsupportedError, UsageError, LimitsExceeded}
use Rattle.tiff_base.specs.declared.error.TiffUnsupportedError.TheVariants.{UnknownInterpretation}
use Rattle.tiff_base.specs.declared.error.UsageError.TheVariants.{InvalidCodingUnit}
use Rattle.tiff_base.specs.declared.tags.PlanarConfiguration.{PlanarConfiguration}
use Rattle.tiff_base.specs.declared.tags.PlanarConfiguration.TheVariants.{Chunky, Planar}
use Rattle.tiff_base.specs.Answers.{◌>>=◌}
use Rattle.tiff_ifd.specs.declared.limits.Limits.{Limits}
use Rattle.tiff_ifd.specs.TagLookup.{ok_or_fault}
use Rattle.tiff_page.specs.declared.layout.BufferLayoutPreference.{BufferLayoutPreference}
use Rattle.tiff_page.specs.declared.layout.DecodingSampleType.{DecodingSampleType}
use Rattle.tiff_page.specs.Page.{PageRecord}
use Rattle.tiff_page.specs.Rect.{rect, chunks_of_plane}
use Rattle.tiff_page.specs.Layout.{LayoutRecord, layout_of, planes, wide, sample_type_of, size_of}
use Rattle.tiff_page.specs.PixelFault.{limit_fault}
use Rattle.tiff_page.specs.Image.{Decoded}

-- the layout of a part of an image all of whose planes have together fewer than 2^64 bytes
unfoldable pub planes_layout : PageRecord → ℕ → ℕ → Result LayoutRecord TiffError
planes_layout p width height = do
  layout ← layout_of p width height
  _ ← wide (layout.plane_stride * planes p.planar layout.color)
  Ok layout

-- the number type, if there is one
abbrev pub type_known : Result DecodingSampleType TiffError → Option DecodingSampleType
type_known (Ok type) = Some type
type_known (Err fault) = None

-- the layout of a buffer for all planes of a layout
abbrev pub all_planes : PageRecord → LayoutRecord → BufferLayoutPreference
all_planes p layout = record {
  len = layout.plane_stride;
  sample_format = p.format;
  sample_type = type_known (sample_type_of p);
  row_stride = Some layout.row_bytes;
  planes = planes p.planar layout.color;
  plane_stride = Some layout.plane_stride;
  complete_len = layout.plane_stride * planes p.planar layout.color;
}

-- the layout of a buffer for an image
unfoldable pub image_buffer_layout : PageRecord → Result BufferLayoutPreference TiffError
image_buffer_layout p = do
  layout ← planes_layout p p.width p.height
  Ok (all_planes p layout)

-- a number of bytes, rounded up to whole samples, below 2^63
abbrev pub rounded_size : ℕ → ℕ → Result ℕ TiffError
rounded_size bytes size = if nat_lt (div_ceil bytes size * size) (2 ^ 63)
    then Ok (div_ceil bytes size * size) else Err LimitsExceeded

-- the layout of a buffer for a chunk: one plane, in whole samples; a page whose samples have no
-- number type has none
unfoldable pub image_chunk_buffer_layout : PageRecord → ℕ → Result BufferLayoutPreference TiffError
image_chunk_buffer_layout p i = do
  layout ← layout_of p (rect p i).width (rect p i).height
  type ← sample_type_of p
  len ← rounded_size layout.plane_stride (size_of type)
  Ok (record {
    len = len;
    sample_format = p.format;
    sample_type = Some type;
    row_stride = Some layout.row_bytes;
    planes = 1;
    plane_stride = Some layout.plane_stride;
    complete_len = len;
  })

-- a coding unit is one of the chunks of a plane
abbrev pub unit_fault : PageRecord → ℕ → Result (Unit {0}) TiffError
unit_fault p unit = if nat_lt unit (chunks_of_plane p) then Ok tt
    else Err (UsageError (InvalidCodingUnit unit (chunks_of_plane p)))

abbrev pub unit_from : PlanarConfiguration → PageRecord → ℕ
    → Result BufferLayoutPreference TiffError
unit_from Chunky p unit = image_chunk_buffer_layout p unit
unit_from Planar p unit = do
  layout ← planes_layout p (rect p unit).width (rect p unit).height
  _ ← unit_fault p unit
  Ok (all_planes p layout)

-- the layout of a buffer for a coding unit: all planes of a planar page, the chunk of a chunky page
unfoldable pub image_coding_unit_layout : PageRecord → ℕ → Result BufferLayoutPreference TiffError
image_coding_unit_layout p unit = unit_from p.planar p unit

-- zeros for all samples of a layout that has a number type, if they are within the limit
unfoldable pub resized_samples : BufferLayoutPreference → Limits → Result Decoded TiffError
resized_samples layout limits = do
  type ← ok_or_fault layout.sample_type (UnsupportedError UnknownInterpretation)
  _ ← limit_fault limits (size_of type) layout.complete_len
  Ok (record {
    sample_type = type;
    numbers = replicate (div_ceil layout.complete_len (size_of type)) 0;
  })
