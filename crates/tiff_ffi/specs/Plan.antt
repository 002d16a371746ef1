-- The plan of a page as plain numbers, and a chunk read by them.
use Rattle.std.specs.Prelude.{◌≡◌, ℕ, ◌-◌, ◌^◌, ◌<◌, ◌==◌, List, if◌then◌else◌, nat_lt, Option, None, Some, Result, Ok, Err}
use Rattle.std.specs.List.{slice_get}
use Rattle.tiff_base.specs.declared.color.ChunkType.{ChunkType}
use Rattle.tiff_base.specs.declared.color.ChunkType.TheVariants.{Strip, Tile}
use Rattle.tiff_base.specs.declared.error.TiffError.{TiffError}
use Rattle.tiff_base.specs.declared.error.TiffError.TheVariants.{FormatError, UnsupportedError, IoError}
use Rattle.tiff_base.specs.declared.error.TiffFormatError.TheVariants.{InvalidTypeForTag, TiffSignatureInvalid}
use Rattle.tiff_base.specs.declared.error.TiffUnsupportedError.TheVariants.{UnknownInterpretation}
use Rattle.tiff_base.specs.declared.io.IoKind.TheVariants.{InvalidInput}
use Rattle.tiff_base.specs.declared.tags.ByteOrder.{ByteOrder}
use Rattle.tiff_base.specs.declared.tags.ByteOrder.TheVariants.{BigEndian, LittleEndian}
use Rattle.tiff_base.specs.declared.tags.FileKind.{FileKind}
use Rattle.tiff_base.specs.declared.tags.FileKind.TheVariants.{Big, Classic}
use Rattle.tiff_base.specs.declared.tags.PhotometricInterpretation.{PhotometricInterpretation}
use Rattle.tiff_base.specs.declared.tags.«Type».{«Type»}
use Rattle.tiff_base.specs.Answers.{◌>>=◌}
use Rattle.tiff_base.specs.Directory.{directory_at}
use Rattle.tiff_base.specs.Field.{DirectoryRecord}
use Rattle.tiff_base.specs.Header.{Header, header_at}
use Rattle.tiff_base.specs.Tags.{extra_number, format_number, format_of, interpretation_number, interpretation_of, method_number, method_of, planar_number, predictor_number, type_number, type_of}
use Rattle.tiff_ifd.specs.declared.limits.Limits.{Limits}
use Rattle.tiff_ifd.specs.Limits.{unlimited}
use Rattle.tiff_ifd.specs.TagLookup.{ok_or_fault}
use Rattle.tiff_decode.specs.DefaultLimits.{default_limits}
use Rattle.tiff_decode.specs.Outcome.{chain_from, end_fault}
use Rattle.tiff_pages.specs.declared.plan.PagePlan.{PagePlan}
use Rattle.tiff_pages.specs.Plan.{plan_in, plan_of, planned_layout, read_planned}
use Rattle.tiff_ffi.specs.declared.plan.PlannedPage.{PlannedPage}
use Rattle.tiff_ffi.specs.Calls.{chunk_number, chunks_from, decoder_at_page, order_number, read_chunk_bytes, read_chunks, ChunkReading}
use Rattle.tiff_ffi.specs.Pages.{extra_named, planar_named}
use Rattle.tiff_ffi.specs.Writer.{kind_of, predictor_named}

-- ---- a plan and its numbers

-- the version in the header of a file of this kind
abbrev pub version_number : FileKind → ℕ
version_number Classic = 42
version_number Big = 43

-- the numbers of a plan
unfoldable pub numbers_of : PagePlan → PlannedPage
numbers_of plan = record {
  offsets_count = plan.offsets.count;
  byte_counts_count = plan.byte_counts.count;
  offsets_value = plan.offsets.value;
  byte_counts_value = plan.byte_counts.value;
  width = plan.width;
  height = plan.height;
  chunk_width = plan.chunk_width;
  chunk_height = plan.chunk_height;
  version = version_number plan.kind;
  order = order_number plan.order;
  photometric = interpretation_number plan.interpretation;
  compression = method_number plan.method;
  samples = plan.samples;
  extra_count = plan.extra_count;
  first_extra = extra_number plan.first_extra;
  sample_format = format_number plan.format;
  bits = plan.depth;
  predictor = predictor_number plan.predictor;
  planar = planar_number plan.planar;
  chunk_kind = chunk_number plan.chunk_type;
  subsampling_across = plan.subsampling.0;
  subsampling_down = plan.subsampling.1;
  offsets_type = type_number plan.offsets.field_type;
  byte_counts_type = type_number plan.byte_counts.field_type;
}

-- the byte order and the kind of chunks of a number
abbrev pub order_of : ℕ → Option ByteOrder
order_of n = if n == 0 then Some LittleEndian else if n == 1 then Some BigEndian else None

abbrev pub chunk_type_of : ℕ → Option ChunkType
chunk_type_of n = if n == 0 then Some Strip else if n == 1 then Some Tile else None

-- what a number names, or the error of a number that names nothing
abbrev pub version_named : ℕ → Result FileKind TiffError
version_named n = ok_or_fault (kind_of n) (FormatError TiffSignatureInvalid)

abbrev pub order_named : ℕ → Result ByteOrder TiffError
order_named n = ok_or_fault (order_of n) (IoError InvalidInput)

abbrev pub interpretation_named : ℕ → Result PhotometricInterpretation TiffError
interpretation_named n =
    ok_or_fault (interpretation_of n) (UnsupportedError UnknownInterpretation)

abbrev pub depth_named : ℕ → Result ℕ TiffError
depth_named n = if nat_lt n (2 ^ 8) then Ok n else Err (IoError InvalidInput)

abbrev pub chunk_type_named : ℕ → Result ChunkType TiffError
chunk_type_named n = ok_or_fault (chunk_type_of n) (IoError InvalidInput)

abbrev pub type_named : ℕ → Result «Type» TiffError
type_named n = ok_or_fault (type_of n) (FormatError InvalidTypeForTag)

-- the plan with these numbers, or the error of the first number that names nothing
unfoldable pub plan_from : PlannedPage → Result PagePlan TiffError
plan_from n = do
  kind ← version_named n.version
  order ← order_named n.order
  interpretation ← interpretation_named n.photometric
  first_extra ← extra_named n.first_extra
  depth ← depth_named n.bits
  predictor ← predictor_named n.predictor
  planar ← planar_named n.planar
  chunk_type ← chunk_type_named n.chunk_kind
  offsets_type ← type_named n.offsets_type
  byte_counts_type ← type_named n.byte_counts_type
  Ok (record {
    kind = kind;
    order = order;
    width = n.width;
    height = n.height;
    interpretation = interpretation;
    method = method_of n.compression;
    samples = n.samples;
    extra_count = n.extra_count;
    first_extra = first_extra;
    format = format_of n.sample_format;
    depth = depth;
    predictor = predictor;
    planar = planar;
    subsampling = (n.subsampling_across, n.subsampling_down);
    chunk_type = chunk_type;
    chunk_width = n.chunk_width;
    chunk_height = n.chunk_height;
    offsets = record {
      field_type = offsets_type;
      count = n.offsets_count;
      value = n.offsets_value;
    };
    byte_counts = record {
      field_type = byte_counts_type;
      count = n.byte_counts_count;
      value = n.byte_counts_value;
    };
  })

-- ---- the calls

-- the offset of a page's directory: in the chain that a header begins, or by the number itself
abbrev pub page_offset : Header → List ℕ → ℕ → Result ℕ TiffError
page_offset header file page =
    if nat_lt page (2 ^ 63)
    then ok_or_fault (slice_get (chain_from header file).offsets page)
    (end_fault (chain_from header file).end)
    else Ok (page - 2 ^ 63)

-- the kind and the byte order of a file, and the directory of a page
unfoldable pub page_directory : List ℕ → ℕ → Result (FileKind × ByteOrder × DirectoryRecord) TiffError
page_directory file page = do
  header ← header_at file
  offset ← page_offset header file page
  directory ← directory_at header.kind header.order file offset
  Ok (header.kind, header.order, directory)

-- the numbers of a plan; no plan is an error
abbrev pub plan_told : Option PagePlan → Result PlannedPage TiffError
plan_told found =
    ok_or_fault found (FormatError InvalidTypeForTag) >>= λ plan. Ok (numbers_of plan)

-- the numbers of the plan of a page
unfoldable pub page_plan : List ℕ → ℕ → Result PlannedPage TiffError
page_plan file page = do
  d ← decoder_at_page file page
  plan_told (plan_of d.kind d.order d.state.directory d.state.page)

-- the plan of a page, by its directory; the numbers of this plan are `page_plan`
unfoldable pub plan_found : List ℕ → ℕ → Result (Option PagePlan) TiffError
plan_found file page = do
  found ← page_directory file page
  plan_in found.0 found.1 file default_limits found.2

-- a slice after a chunk was read into it by the numbers of a plan
unfoldable pub read_planned_chunk : List ℕ → PlannedPage → ℕ → List ℕ → Result (List ℕ) TiffError
read_planned_chunk file numbers chunk slice = do
  plan ← plan_from numbers
  read_planned file plan unlimited chunk slice

-- the chunks of a plan under limits
abbrev pub plan_reading : List ℕ → PagePlan → Limits → ChunkReading
plan_reading file plan limits = record {
  len_of = λ i. planned_layout plan i >>= λ layout. Ok layout.len;
  read = read_planned file plan limits;
}

-- a slice after `count` chunks were read into it by the numbers of a plan, from the number `first`
-- on, one behind the other
unfoldable pub read_planned_chunks : List ℕ → PlannedPage → ℕ → ℕ → List ℕ → Result (List ℕ) TiffError
read_planned_chunks file numbers first count slice = do
  plan ← plan_from numbers
  chunks_from (plan_reading file plan unlimited) first count slice

-- ---- the laws

-- The methods and the sample formats of a plan are named where their numbers have names, as those
-- of every page are.
pub record IsNamed (plan : PagePlan) : Type 0 where
  pub method : method_of (method_number plan.method) ≡ plan.method
  pub format : format_of (format_number plan.format) ≡ plan.format
  pub depth : plan.depth < 2 ^ 8

-- The numbers of a plan are those of this plan alone.
abbrev pub PlansComeBack : Type 0
PlansComeBack = (plan : PagePlan) → IsNamed plan → plan_from (numbers_of plan) ≡ Ok plan

-- By these numbers each chunk is read as it is read of the page, and so are several chunks.
pub record ReadsPage (file : List ℕ) (page : ℕ) (numbers : PlannedPage) : Type 0 where
  pub chunk : (chunk : ℕ) (slice : List ℕ)
      → read_planned_chunk file numbers chunk slice ≡ read_chunk_bytes file page chunk slice
  pub chunks : (first count : ℕ) (slice : List ℕ)
      → read_planned_chunks file numbers first count slice
      ≡ read_chunks file page first count slice
