-- Pages that C passes: the jobs of the encoder that they stand for, and what C gets for them.
use Rattle.std.specs.Prelude.{◌≡◌, ◌⊎◌, ℕ, ◌+◌, ◌-◌, ◌*◌, ◌<◌, ◌≤◌, max, ◌==◌, ◌&&◌, not, ◌++◌, List, [], ◌∷◌, length, map, drop, take, replicate, Bool, count_by, slice_get, slice_index, slice_set, nat_lt, nat_le, if◌then◌else◌, Option, None, Some, Result, Ok, Err}
use Rattle.std.specs.FinMap.{entries, get}
use Rattle.std.specs.Int.{div_ceil}
use Rattle.std.specs.List.{list_any}
use Rattle.tiff_base.specs.declared.error.TiffError.{TiffError}
use Rattle.tiff_base.specs.declared.error.TiffError.TheVariants.{FormatError, UnsupportedError, IoError, UsageError, OutOfMemory}
use Rattle.tiff_base.specs.declared.error.TiffFormatError.TheVariants.{TiffSignatureInvalid, UnknownPlanarConfiguration, ImageFileDirectoryNotFound, RequiredTagNotFound}
use Rattle.tiff_base.specs.declared.error.TiffUnsupportedError.TheVariants.{UnsupportedDataType}
use Rattle.tiff_base.specs.declared.error.UsageError.TheVariants.{MismatchedEntryLength}
use Rattle.tiff_base.specs.declared.io.IoKind.TheVariants.{InvalidData, InvalidInput}
use Rattle.tiff_base.specs.declared.tags.ByteOrder.TheVariants.{LittleEndian}
use Rattle.tiff_base.specs.declared.tags.ExtraSamples.{ExtraSamples}
use Rattle.tiff_base.specs.declared.tags.FileKind.{FileKind}
use Rattle.tiff_base.specs.declared.tags.FileKind.TheVariants.{Big, Classic}
use Rattle.tiff_base.specs.declared.tags.PlanarConfiguration.{PlanarConfiguration}
use Rattle.tiff_base.specs.declared.tags.PlanarConfiguration.TheVariants.{Chunky, Planar}
use Rattle.tiff_base.specs.declared.tags.Predictor.{Predictor}
use Rattle.tiff_base.specs.declared.tags.ResolutionUnit.{ResolutionUnit}
use Rattle.tiff_base.specs.declared.tags.Tag.{Tag}
use Rattle.tiff_base.specs.declared.tags.Tag.TheVariants.{SubIfd}
use Rattle.tiff_base.specs.declared.tags.«Type».{«Type»}
use Rattle.tiff_base.specs.declared.tags.«Type».TheVariants.{IFD, IFD8}
use Rattle.tiff_base.specs.Buffer.{BufferRecord}
use Rattle.tiff_base.specs.Directory.{directory_at, entry_len, first_entry, offset_width}
use Rattle.tiff_base.specs.Field.{DirectoryRecord, Field}
use Rattle.tiff_base.specs.FieldBytes.{field_offset}
use Rattle.tiff_base.specs.Number.{number_at}
use Rattle.tiff_base.specs.Tags.{extra_of, planar_of, tag_number, tag_of, type_of, unit_of}
use Rattle.tiff_base.specs.Types.{type_size}
use Rattle.tiff_value.specs.declared.encoder.colortype.ColorTypeName.{ColorTypeName}
use Rattle.tiff_value.specs.ColorTypes.{color_type}
use Rattle.tiff_page.specs.Counts.{planes_of}
use Rattle.tiff_page.specs.Pixels.{tabulate}
use Rattle.tiff_append.specs.Behind.{RunsAt}
use Rattle.tiff_ifd.specs.Chain.{Chain, chain}
use Rattle.tiff_ifd.specs.TagLookup.{ok_or_fault}
use Rattle.tiff_encode.specs.declared.encoder.script.DirectoryStep.TheVariants as step
use Rattle.tiff_encode.specs.declared.encoder.script.ImageEnd.{ImageEnd}
use Rattle.tiff_encode.specs.declared.encoder.script.ImageEnd.TheVariants as iend
use Rattle.tiff_encode.specs.declared.encoder.script.ImageJob.{ImageJob}
use Rattle.tiff_encode.specs.declared.encoder.script.ImageStep.{ImageStep}
use Rattle.tiff_encode.specs.declared.encoder.script.ImageStep.TheVariants as istep
use Rattle.tiff_encode.specs.declared.encoder.script.Job.{Job}
use Rattle.tiff_encode.specs.declared.encoder.script.Job.TheVariants as job
use Rattle.tiff_encode.specs.declared.encoder.script.JobReply.{JobReply}
use Rattle.tiff_encode.specs.declared.encoder.settings.Compression.{Compression}
use Rattle.tiff_value.specs.FileBytes.{offset_len}
use Rattle.tiff_encode.specs.JobValues.{buffer_in}
use Rattle.tiff_value.specs.Model.{header_link}
use Rattle.tiff_ffi.specs.declared.pages.ChildJobs.{ChildJobs}
use Rattle.tiff_ffi.specs.declared.pages.NewPage.{NewPage}
use Rattle.tiff_ffi.specs.declared.pages.NewTag.{NewTag}
use Rattle.tiff_ffi.specs.declared.pages.PageField.{PageField}
use Rattle.tiff_ffi.specs.declared.pages.PageField.TheVariants as field
use Rattle.tiff_ffi.specs.declared.pages.PageNames.{PageNames}
use Rattle.tiff_ffi.specs.declared.pages.PagesAnswer.{PagesAnswer}
use Rattle.tiff_ffi.specs.declared.pages.PagesAnswer.TheVariants.{Refused, Ran}
use Rattle.tiff_ffi.specs.declared.pages.PagesEnd.{PagesEnd}
use Rattle.tiff_ffi.specs.declared.pages.PagesJobs.{PagesJobs}
use Rattle.tiff_ffi.specs.declared.pages.RefusedPage.{RefusedPage}
use Rattle.tiff_ffi.specs.declared.pages.Place.{Place}
use Rattle.tiff_ffi.specs.declared.pages.Refusal.{Refusal}
use Rattle.tiff_ffi.specs.declared.pages.WrittenPages.{WrittenPages}
use Rattle.tiff_ffi.specs.Entries.{is_in_place}
use Rattle.tiff_ffi.specs.Jobs.{RanJobs, Stays, first_refused, refused_step}
use Rattle.tiff_ffi.specs.Status.{fault_number}
use Rattle.tiff_ffi.specs.Writer.{Delivers, color_named, kind_of, packing_named, predictor_named, samples_from_bytes}

-- ---- jobs, as lists and numbers

-- a call of an open image, with the values that it is passed
pub data PageStep : Type 0 where
  extra_samples : List ExtraSamples → PageStep
  tiles : ℕ → ℕ → PageStep
  rows_per_strip : ℕ → PageStep
  in_planes : PageStep
  resolution_unit : ResolutionUnit → PageStep
  x_resolution : ℕ × ℕ → PageStep
  y_resolution : ℕ × ℕ → PageStep
  write_tag_buf : Tag → BufferRecord → PageStep
  write_chunk : List ℕ → PageStep
  other_step : PageStep

abbrev pub step_view : ImageStep → PageStep
step_view (istep.ExtraSamples extra) = extra_samples extra.items
step_view (istep.Tiles width height) = tiles width height
step_view (istep.RowsPerStrip rows) = rows_per_strip rows
step_view istep.Planar = in_planes
step_view (istep.ResolutionUnit unit) = resolution_unit unit
step_view (istep.XResolution x) = x_resolution (x.n, x.d)
step_view (istep.YResolution y) = y_resolution (y.n, y.d)
step_view (istep.Directory (step.WriteTagBuf tag buffer)) = write_tag_buf tag (buffer_in buffer)
step_view (istep.WriteChunk samples) = write_chunk samples
step_view _ = other_step

-- how an image ends: `write_data` of these samples, `finish` or `discard`
pub data PageEnd : Type 0 where
  writes : List ℕ → PageEnd
  finishes : PageEnd
  discards : PageEnd

abbrev pub end_view : ImageEnd → PageEnd
end_view (iend.WriteData samples) = writes samples
end_view iend.Finish = finishes
end_view iend.Discard = discards

-- an image, the calls before its end, and its end
pub record PageImage : Type 0 where
  pub color : ColorTypeName
  pub width : ℕ
  pub height : ℕ
  pub steps : List PageStep
  pub end : PageEnd

pub data PageJob : Type 0 where
  sets_predictor : Predictor → PageJob
  sets_compression : Compression → PageJob
  writes_image : PageImage → PageJob
  other_job : PageJob

abbrev pub image_view : ImageJob → PageJob
image_view image = writes_image (record {
  color = image.color;
  width = image.width;
  height = image.height;
  steps = map step_view image.steps.items;
  end = end_view image.end;
})

abbrev pub job_view : Job → PageJob
job_view (job.Predictor predictor) = sets_predictor predictor
job_view (job.Compression compression) = sets_compression compression
job_view (job.Image image) = image_view image
job_view _ = other_job

-- ---- results

-- one step, and the next step if the first is not refused
infixl 10 ◌>>=◌
abbrev pub ◌>>=◌ : {A B E : Type 0} → Result A E → (A → Result B E) → Result B E
(Ok x) >>= f = f x
(Err e) >>= f = Err e

-- what `f` gives for each item, or the first error
abbrev pub each : {A B E : Type 0} → (A → Result B E) → List A → Result (List B) E
each f [] = Ok []
each f (x ∷ xs) = do
  y ← f x
  ys ← each f xs
  Ok (y ∷ ys)

-- these items, and behind them those of a result
abbrev pub appended : {A E : Type 0} → List A → Result (List A) E → Result (List A) E
appended xs told = do
  ys ← told
  Ok (xs ++ ys)

-- A call returns the defined result, seen by `view`; or the error of memory that is out.
abbrev pub Makes : {X Y E : Type 0} → (E → Type 0) → (X → Y) → Result X E → Result Y E → Type 0
Makes IsOut view (Ok x) told = told ≡ Ok (view x)
Makes IsOut view (Err e) told = IsOut e ⊎ (told ≡ Err e)

abbrev pub IsOut : TiffError → Type 0
IsOut e = e ≡ OutOfMemory

abbrev pub IsOutAt : Refusal → Type 0
IsOutAt refusal = refusal.fault ≡ OutOfMemory

-- Memory was out at a page of the list, which are counted from 1; before any was seen, at the
-- first.
abbrev pub IsOutIn : List NewPage → ℕ × Refusal → Type 0
IsOutIn pages at = IsOutAt at.1 × ((0 < at.0) × (at.0 ≤ max 1 (length pages)))

-- ---- the fields of a page

-- the number of a field, in the order in which a page is refused; 0 for the page as a whole
abbrev pub field_number : PageField → ℕ
field_number field.Whole = 0
field_number field.Color = 1
field_number field.Method = 2
field_number field.Predictor = 3
field_number field.Planar = 4
field_number field.Resolution = 5
field_number field.ExtraSamples = 6
field_number field.Tags = 7
field_number field.Samples = 8
field_number field.Layout = 9
field_number field.Parent = 10

-- an error is that of a field
abbrev pub in_field : {A : Type 0} → PageField → Result A TiffError → Result A Refusal
in_field field (Ok x) = Ok x
in_field field (Err e) = Err (record { field = field; fault = e })

-- the planar configuration of a number
abbrev pub planar_named : ℕ → Result PlanarConfiguration TiffError
planar_named n = ok_or_fault (planar_of n) (FormatError (UnknownPlanarConfiguration n))

-- the unit of resolutions of a number; none for 0
abbrev pub unit_named : ℕ → Result (Option ResolutionUnit) TiffError
unit_named n = if n == 0 then Ok None
    else ok_or_fault (unit_of n) (IoError InvalidInput) >>= λ unit. Ok (Some unit)

-- what a page names by numbers
abbrev pub names_of : NewPage → Result PageNames Refusal
names_of page = do
  color ← in_field field.Color (color_named page.color)
  compression ← in_field field.Method (packing_named page.method)
  predictor ← in_field field.Predictor (predictor_named page.predictor)
  planar ← in_field field.Planar (planar_named page.planar)
  unit ← in_field field.Resolution (unit_named page.resolution_unit)
  Ok (record { color = color; compression = compression; predictor = predictor; planar = planar; unit = unit })

-- the meaning of an extra sample of a number
abbrev pub extra_named : ℕ → Result ExtraSamples TiffError
extra_named n = ok_or_fault (extra_of n) (IoError InvalidInput)

-- a tag of a type, if its bytes are as many values of the type as it says
abbrev pub tag_of_type : NewTag → «Type» → Result PageStep TiffError
tag_of_type tag type =
    if length tag.values.now == tag.count * type_size type
    then Ok (write_tag_buf (tag_of tag.number) (record { order = LittleEndian; data_type = type; bytes = tag.values.now }))
    else Err (UsageError (MismatchedEntryLength type (length tag.values.now)))

-- a tag of the caller's own
abbrev pub tag_step : NewTag → Result PageStep TiffError
tag_step tag = ok_or_fault (type_of tag.value_type) (UnsupportedError UnsupportedDataType) >>= tag_of_type tag

-- ---- pages with parents

-- the tag SubIFDs (330), whose values are the offsets of directories (Adobe's technical note 1 on
-- TIFF 6.0)
abbrev pub sub_ifds : ℕ
sub_ifds = tag_number SubIfd

-- the type of the offsets of directories, of as many bytes as a link
abbrev pub link_type : FileKind → «Type»
link_type Classic = IFD
link_type Big = IFD8

-- how many of these pages have the page of this number as their parent
abbrev pub count_of : List NewPage → ℕ → ℕ
count_of pages parent = count_by (λ page. page.parent == parent) pages

-- where a page of this number is among these pages
abbrev pub place_in : List NewPage → ℕ → NewPage → Place
place_in pages number page = record {
  number = number;
  children = count_of pages number;
  index = count_of (take (number - 1) pages) page.parent;
}

-- a tag SubIFDs with so many links, which are zeros
abbrev pub link_step : FileKind → ℕ → PageStep
link_step kind children = write_tag_buf SubIfd (record {
  order = LittleEndian;
  data_type = link_type kind;
  bytes = replicate (children * offset_len kind) 0;
})

-- calls, and behind them the one for the tag SubIFDs of a page with children, unless the page has a
-- tag SubIFDs of the caller's own
abbrev pub with_links : FileKind → ℕ → List NewTag → List PageStep → Result (List PageStep) TiffError
with_links kind children tags steps =
    if children == 0 then Ok steps
    else if list_any (λ tag. tag.number == sub_ifds) tags then Err (IoError InvalidInput)
    else Ok (steps ++ link_step kind children ∷ [])

-- ---- the jobs of pages

abbrev pub extra_steps : List ExtraSamples → List PageStep
extra_steps [] = []
extra_steps extra = extra_samples extra ∷ []

-- tiles, unless both sides are 0
abbrev pub tile_steps : ℕ → ℕ → List PageStep
tile_steps width height = if width == 0 && height == 0 then [] else tiles width height ∷ []

-- strips of so many rows, unless that is 0
abbrev pub row_steps : ℕ → List PageStep
row_steps rows = if rows == 0 then [] else rows_per_strip rows ∷ []

abbrev pub planar_steps : PlanarConfiguration → List PageStep
planar_steps Chunky = []
planar_steps Planar = in_planes ∷ []

-- resolutions, if they have a unit
abbrev pub resolution_steps : NewPage → Option ResolutionUnit → List PageStep
resolution_steps page None = []
resolution_steps page (Some unit) =
    resolution_unit unit
    ∷ x_resolution (page.x_resolution.n, page.x_resolution.d)
    ∷ y_resolution (page.y_resolution.n, page.y_resolution.d)
    ∷ []

-- the calls that say how the chunks lie
abbrev pub layout_steps : NewPage → PlanarConfiguration → List PageStep
layout_steps page planar =
    tile_steps page.tile_width page.tile_length
    ++ (row_steps page.rows_per_strip ++ planar_steps planar)

-- the calls before the tags of the caller's own
abbrev pub settings_steps : NewPage → PageNames → List ExtraSamples → List PageStep
settings_steps page names extra =
    extra_steps extra ++ (layout_steps page names.planar ++ resolution_steps page names.unit)

-- how many tiles a page has, in all planes
abbrev pub tiles_of : NewPage → PageNames → ℕ
tiles_of page names =
    div_ceil page.width page.tile_width * div_ceil page.height page.tile_length
    * planes_of names.planar
    (length (color_type names.color).bits + length page.extra_samples.now)

-- the samples of a page are those of its tiles, which have so many bytes each
abbrev pub are_tiles : NewPage → PageNames → Bool
are_tiles page names =
    not (page.tile_width == 0) && not (page.tile_length == 0)
    && length page.samples.now == tiles_of page names * page.tile_bytes

-- bytes in so many pieces of a size
abbrev pub pieces : ℕ → ℕ → List ℕ → List (List ℕ)
pieces count size bytes = tabulate count (λ k. take size (drop (k * size) bytes))

-- the call that writes a tile
abbrev pub tile_step : ColorTypeName → List ℕ → Result PageStep TiffError
tile_step color bytes = do
  samples ← samples_from_bytes color bytes
  Ok (write_chunk samples)

-- calls, and how the image ends: by `write_data` of all samples
abbrev pub with_rows : ColorTypeName → List ℕ → List PageStep
    → Result (List PageStep × PageEnd) TiffError
with_rows color bytes steps = do
  samples ← samples_from_bytes color bytes
  Ok (steps, writes samples)

-- calls, behind them those that write tiles, and how the image ends: by `finish`
abbrev pub with_tiles : ColorTypeName → List (List ℕ) → List PageStep
    → Result (List PageStep × PageEnd) TiffError
with_tiles color parts steps = do
  all ← appended steps (each (tile_step color) parts)
  Ok (all, finishes)

-- the calls with those that write the samples of a page, and how its image ends
abbrev pub with_samples : NewPage → PageNames → List PageStep
    → Result (List PageStep × PageEnd) TiffError
with_samples page names steps =
    if page.tile_bytes == 0 then with_rows names.color page.samples.now steps
    else if are_tiles page names
    then with_tiles names.color
    (pieces (tiles_of page names) page.tile_bytes page.samples.now) steps
    else Err (IoError InvalidData)

-- the image of a page with so many children, or the first of its lists that is refused
abbrev pub page_image : FileKind → ℕ → NewPage → PageNames → Result PageJob Refusal
page_image kind children page names = do
  extra ← in_field field.ExtraSamples (each extra_named page.extra_samples.now)
  own ← in_field field.Tags
      (appended (settings_steps page names extra) (each tag_step page.tags.now))
  linked ← in_field field.Tags (with_links kind children page.tags.now own)
  given ← in_field field.Samples (with_samples page names linked)
  Ok (writes_image (record {
    color = names.color;
    width = page.width;
    height = page.height;
    steps = given.0;
    end = given.1;
  }))

-- the predictor, the compression and the image of a page
abbrev pub jobs_named : PageNames → PageJob → List PageJob
jobs_named names image =
    sets_predictor names.predictor ∷ sets_compression names.compression ∷ image ∷ []

-- the jobs of a page with so many children, or the first of its fields that is refused
abbrev pub page_jobs : FileKind → ℕ → NewPage → Result (List PageJob) Refusal
page_jobs kind children page = do
  names ← names_of page
  image ← page_image kind children page names
  Ok (jobs_named names image)

-- a page with a parent: its number, that of its parent, how many earlier pages have this parent,
-- and its jobs
pub record ChildView : Type 0 where
  pub page : ℕ
  pub parent : ℕ
  pub index : ℕ
  pub jobs : List PageJob

-- the pages in the chain, by their numbers, with all of their jobs; and the pages with parents
pub record PagesView : Type 0 where
  pub numbers : List ℕ
  pub chain : List PageJob
  pub children : List ChildView

abbrev pub child_view : ChildJobs → ChildView
child_view child = record {
  page = child.page;
  parent = child.parent;
  index = child.index;
  jobs = map job_view child.jobs.items;
}

abbrev pub pages_view : PagesJobs → PagesView
pages_view pages = record {
  numbers = pages.numbers.items;
  chain = map job_view pages.chain.items;
  children = map child_view pages.children.items;
}

abbrev pub no_jobs : PagesView
no_jobs = record { numbers = []; chain = []; children = [] }

-- some pages, and others behind them
abbrev pub both : PagesView → PagesView → PagesView
both a b = record {
  numbers = a.numbers ++ b.numbers;
  chain = a.chain ++ b.chain;
  children = a.children ++ b.children;
}

-- these pages, and behind them those of a result
abbrev pub behind : {E : Type 0} → PagesView → Result PagesView E → Result PagesView E
behind done told = do
  more ← told
  Ok (both done more)

-- one page, in the chain, or with a parent
abbrev pub chained : ℕ → List PageJob → PagesView
chained number jobs = record { numbers = number ∷ []; chain = jobs; children = [] }

abbrev pub with_parent : ChildView → PagesView
with_parent child = record { numbers = []; chain = []; children = child ∷ [] }

-- a page with these jobs, whose parent is 0 or an earlier page
abbrev pub placed : Place → ℕ → List PageJob → Result PagesView TiffError
placed place parent jobs =
    if parent == 0 then Ok (chained place.number jobs)
    else if nat_lt parent place.number
    then Ok (with_parent (record {
      page = place.number;
      parent = parent;
      index = place.index;
      jobs = jobs;
    }))
    else Err (IoError InvalidInput)

-- a page at its place, or the first of its fields that is refused
abbrev pub page_in : FileKind → Place → NewPage → Result PagesView Refusal
page_in kind place page = do
  jobs ← page_jobs kind place.children page
  in_field field.Parent (placed place page.parent jobs)

-- an error is that of a page of this number
abbrev pub at_page : {A : Type 0} → ℕ → Result A Refusal → Result A (ℕ × Refusal)
at_page n (Ok x) = Ok x
at_page n (Err refusal) = Err (n, refusal)

-- the jobs of the pages of a file from the one of the number `n` on; or the first page that is
-- refused
abbrev pub jobs_from : FileKind → List NewPage → ℕ → List NewPage
    → Result PagesView (ℕ × Refusal)
jobs_from kind pages n [] = Ok no_jobs
jobs_from kind pages n (page ∷ rest) = do
  own ← at_page n (page_in kind (place_in pages n page) page)
  others ← jobs_from kind pages (n + 1) rest
  Ok (both own others)

-- the jobs of pages, which are counted from 1
abbrev pub jobs_of_pages : FileKind → List NewPage → Result PagesView (ℕ × Refusal)
jobs_of_pages kind pages = jobs_from kind pages 1 pages

-- ---- what was refused

-- the field that a call of an image is made for
abbrev pub step_field : PageStep → PageField
step_field (extra_samples extra) = field.ExtraSamples
step_field (tiles width height) = field.Layout
step_field (rows_per_strip rows) = field.Layout
step_field in_planes = field.Planar
step_field (resolution_unit unit) = field.Resolution
step_field (x_resolution x) = field.Resolution
step_field (y_resolution y) = field.Resolution
step_field (write_tag_buf tag buffer) = field.Tags
step_field (write_chunk samples) = field.Samples
step_field other_step = field.Whole

-- the field of a step, if there is one
abbrev pub field_of : Option ImageStep → PageField
field_of None = field.Whole
field_of (Some step) = step_field (step_view step)

-- the field of a step of a job
abbrev pub field_in : Option Job → ℕ → PageField
field_in (Some (job.Image image)) step = field_of (slice_get image.steps.items step)
field_in _ step = field.Whole

-- the field of the step that was refused; the page as a whole, if its beginning or its samples were
abbrev pub refused_field : List Job → Option (ℕ × ℕ) → Option ℕ → PageField
refused_field jobs (Some refused) (Some step) = field_in (slice_get jobs (refused.0 - 1)) step
refused_field jobs _ _ = field.Whole

-- the page of a job, both counted from 1, since a page is three jobs; 0 for 0
abbrev pub page_of_job : ℕ → ℕ
page_of_job job = div_ceil job 3

-- The page of the first job that had an error, with its field and the status: of pages with these
-- numbers, and of their jobs.
abbrev pub refused_page : List ℕ → List Job → Option (ℕ × ℕ) → Option ℕ → Option RefusedPage
refused_page numbers jobs None step = None
refused_page numbers jobs (Some refused) step = Some (record {
  page = slice_index numbers (page_of_job refused.0 - 1);
  field = refused_field jobs (Some refused) step;
  status = refused.1;
})

-- the page that the replies to jobs refuse
abbrev pub refused_in : List ℕ → List Job → List JobReply → Option RefusedPage
refused_in numbers jobs replies = let refused = first_refused 1 replies in
    refused_page numbers jobs refused (refused_step replies refused)

-- ---- where a page is linked

-- the offset of the value field of the entry of a tag number in the directory at an offset, whose
-- entries are in ascending order of their tag numbers
abbrev pub value_field : FileKind → ℕ → DirectoryRecord → ℕ → ℕ
value_field kind at directory number =
    first_entry kind at
    + entry_len kind * count_by (λ e. nat_lt e.0 number) (entries directory.entries)
    + (entry_len kind - offset_len kind)

-- the offset of the values of the tag SubIFDs: in its entry, or elsewhere
abbrev pub links_at : FileKind → ℕ → DirectoryRecord → Field → ℕ
links_at kind at directory f = if is_in_place kind f then value_field kind at directory sub_ifds
    else field_offset kind LittleEndian f

-- a link, if it is within a file of `len` bytes, and not before a floor
abbrev pub within : FileKind → ℕ → ℕ → ℕ → Result ℕ TiffError
within kind floor len q = if nat_le floor q && nat_le (q + offset_len kind) len then Ok q
    else Err (IoError InvalidInput)

-- The offset of the value at an index of the tag SubIFDs of the directory at an offset, which is a
-- link. It isn't before a floor.
abbrev pub slot_at : FileKind → ℕ → List ℕ → ℕ → ℕ → Result ℕ TiffError
slot_at kind floor file at index = do
  directory ← directory_at kind LittleEndian file at
  f ← ok_or_fault (get directory.entries sub_ifds) (FormatError (RequiredTagNotFound SubIfd))
  within kind floor (length file) (links_at kind at directory f + offset_len kind * index)

-- the number of the link at q
abbrev pub link_at : FileKind → List ℕ → ℕ → Result ℕ TiffError
link_at kind file q = number_at LittleEndian (offset_width kind) file q

-- all offsets of a chain, or the error by which it ends
abbrev pub all_by : List ℕ → Option TiffError → Result (List ℕ) TiffError
all_by offsets None = Ok offsets
all_by offsets (Some e) = Err e

abbrev pub all_of : Chain → Result (List ℕ) TiffError
all_of found = all_by found.offsets found.end

-- the offsets of the directories of the chain that the link at q begins
abbrev pub chain_at : FileKind → List ℕ → ℕ → Result (List ℕ) TiffError
chain_at kind file q = do
  first ← link_at kind file q
  all_of (chain kind LittleEndian file first)

-- the offsets of directories, each at the number of its page, with those of more pages: of these
-- numbers, at these offsets
abbrev pub placed_at : List ℕ → List ℕ → List ℕ → List ℕ
placed_at places (page ∷ numbers) (at ∷ offsets) =
    placed_at (slice_set places page at) numbers offsets
placed_at places _ _ = places

-- the offsets of the directories of the chain, each at the number of its page, of so many pages in
-- all; 0 at other numbers
abbrev pub chain_places : ℕ → List ℕ → List ℕ → List ℕ
chain_places pages numbers offsets = placed_at (replicate (pages + 1) 0) numbers offsets

-- the offset of the directory of a page, if there is one at its number
abbrev pub place_of : List ℕ → ℕ → Result ℕ TiffError
place_of places page =
    if slice_index places page == 0 then Err (FormatError ImageFileDirectoryNotFound)
    else Ok (slice_index places page)

-- the link of a page with a parent
abbrev pub child_slot : FileKind → ℕ → ChildJobs → List ℕ → List ℕ → Result ℕ TiffError
child_slot kind floor child places file = do
  at ← place_of places child.parent
  slot_at kind floor file at child.index

-- ---- pages are run

-- what pages leave: their file, and the page that was refused while they were written
abbrev pub LeftPages : Type 0
LeftPages = List ℕ × Option RefusedPage

-- an outcome that follows a result: its error, or what is said of its value
abbrev pub By : {A B : Type 0} → Result A TiffError → (A → Result B TiffError → Type 0)
    → Result B TiffError → Type 0
By (Ok x) Follows outcome = Follows x outcome
By (Err e) Follows outcome = outcome ≡ Err e

-- an outcome behind a page that may have been refused: nothing else is run then
abbrev pub Unless : Option RefusedPage → List ℕ → (Result LeftPages TiffError → Type 0)
    → Result LeftPages TiffError → Type 0
Unless None file Follows outcome = Follows outcome
Unless (Some page) file Follows outcome = outcome ≡ Ok (file, Some page)

-- A page is run by an encoder that goes on behind a file at the link at q, and leaves another file.
-- Unless the page is refused, that link leads to its directory.
pub record ChildRan (kind : FileKind) (child : ChildJobs) (file : List ℕ) (q : ℕ)
    (Follows : List ℕ → ℕ → Result LeftPages TiffError → Type 0)
    (outcome : Result LeftPages TiffError) : Type 0 where
  pub left : List ℕ
  pub replies : List JobReply
  pub runs : RunsAt kind file q child.jobs.items [] replies left
  pub goes_on : Unless (refused_in (child.page ∷ []) child.jobs.items replies) left
      (By (link_at kind left q) (Follows left)) outcome

-- Pages with parents are run one after another, each at the next link of its parent, up to the
-- first that is refused. `places` are the offsets of the directories so far, each at the number of
-- its page.
abbrev pub ChildrenRan : FileKind → ℕ → List ChildJobs → List ℕ → List ℕ
    → Result LeftPages TiffError → Type 0
ChildrenRan kind floor [] places file outcome = outcome ≡ Ok (file, None)
ChildrenRan kind floor (child ∷ children) places file outcome =
    By (child_slot kind floor child places file)
    (λ q. ChildRan kind child file q
    (λ left at. ChildrenRan kind floor children (slice_set places child.page at) left)) outcome

-- Pages with parents are run behind those of the chain that the link at q begins, if there are any.
abbrev pub GoesOn : FileKind → ℕ → ℕ → List ℕ → List ChildJobs → List ℕ
    → Result LeftPages TiffError → Type 0
GoesOn kind floor q numbers [] file outcome = outcome ≡ Ok (file, None)
GoesOn kind floor q numbers (child ∷ children) file outcome =
    By (chain_at kind file q)
    (λ offsets. ChildrenRan kind floor (child ∷ children)
    (chain_places (length numbers + length (child ∷ children)) numbers offsets) file) outcome

-- The jobs of the chain left this file, and may have refused a page; else the other pages are run.
abbrev pub PagesGoOn : FileKind → ℕ → ℕ → PagesJobs → List ℕ → Option RefusedPage
    → Result LeftPages TiffError → Type 0
PagesGoOn kind floor q pages file refused =
    Unless refused file (GoesOn kind floor q pages.numbers.items pages.children.items file)

-- The jobs of the pages in the chain are run on an empty sink, and then the other pages.
pub record RanPages (kind : FileKind) (pages : PagesJobs) (outcome : Result LeftPages TiffError)
    : Type 0 where
  pub file : List ℕ
  pub refused : Option (ℕ × ℕ)
  pub step : Option ℕ
  pub ran : RanJobs kind pages.chain.items file refused step
  pub goes_on : PagesGoOn kind 0 (header_link kind) pages file
      (refused_page pages.numbers.items pages.chain.items refused step) outcome

-- the answer of a call whose file and page an outcome has, unless memory is out
abbrev pub EndsPages : (Result LeftPages TiffError → Type 0) → Result WrittenPages TiffError → Type 0
EndsPages Ends (Ok pages) = Ends (Ok (pages.file.items, pages.refused))
EndsPages Ends (Err e) = (e ≡ OutOfMemory) ⊎ Ends (Err e)

-- ---- what C gets

-- The jobs of the pages were run: they left a file, and perhaps a page was refused; or they ended
-- by an error.
abbrev pub RunsPages : FileKind → List NewPage → Result LeftPages TiffError → Type 0
RunsPages kind pages outcome = (jobs : PagesJobs)
    × ((jobs_of_pages kind pages ≡ Ok (pages_view jobs)) × RanPages kind jobs outcome)

-- A page of the list is refused before any job is run: the first one with an error, with its field;
-- or the one at which memory was out.
abbrev pub RefusesPages : FileKind → List NewPage → ℕ → Refusal → Type 0
RefusesPages kind pages page refusal =
    IsOutIn pages (page, refusal) ⊎ (jobs_of_pages kind pages ≡ Err (page, refusal))

-- The jobs of the pages were run, or a page was refused, and no job was run. An error is that of
-- memory, or of a parent's directory that can't be read, which no clause excludes.
abbrev pub AnswersPages : FileKind → List NewPage → Result PagesAnswer TiffError → Type 0
AnswersPages kind pages (Ok (Ran ran)) = RunsPages kind pages (Ok (ran.file.items, ran.refused))
AnswersPages kind pages (Ok (Refused page refusal)) = RefusesPages kind pages page refusal
AnswersPages kind pages (Err e) = (e ≡ OutOfMemory) ⊎ RunsPages kind pages (Err e)

abbrev pub no_page : PagesEnd
no_page = record { page = 0; field = 0 }

-- The file of pages is delivered if none was refused; else C gets the status, and the page with its
-- field.
abbrev pub TellsWritten : List ℕ → Option RefusedPage → ℕ → List ℕ → List ℕ → ℕ → ℕ → PagesEnd
    → Type 0
TellsWritten file None status old new len_old len_new end =
    Delivers (Ok file) status old new len_old len_new × (end ≡ no_page)
TellsWritten file (Some page) status old new len_old len_new end =
    (status ≡ page.status)
    × (Stays old new len_old len_new
    × (end ≡ record { page = page.page; field = field_number page.field }))

-- A page that is refused before any is written is told with its field and the number of the error.
abbrev pub TellsPages : Result PagesAnswer TiffError → ℕ → List ℕ → List ℕ → ℕ → ℕ → PagesEnd → Type 0
TellsPages (Ok (Ran ran)) status old new len_old len_new end =
    TellsWritten ran.file.items ran.refused status old new len_old len_new end
TellsPages (Ok (Refused page refusal)) status old new len_old len_new end =
    (status ≡ fault_number refusal.fault)
    × (Stays old new len_old len_new × (end ≡ record { page = page; field = field_number refusal.field }))
TellsPages (Err e) status old new len_old len_new end = (status ≡ fault_number e)
    × (Stays old new len_old len_new × (end ≡ no_page))

-- the answer to pages for a file of this kind; without a kind, the version is an error
abbrev pub AnswersVersion : Option FileKind → List NewPage → Result PagesAnswer TiffError → Type 0
AnswersVersion None pages answer = answer ≡ Err (FormatError TiffSignatureInvalid)
AnswersVersion (Some kind) pages answer = AnswersPages kind pages answer

-- the status, the buffer, the length and the end that C gets for pages and the version in the
-- header of their file
abbrev pub PagesTell : ℕ → List NewPage → ℕ → List ℕ → List ℕ → ℕ → ℕ → PagesEnd → Type 0
PagesTell version pages status old new len_old len_new end =
    (answer : Result PagesAnswer TiffError)
    × (AnswersVersion (kind_of version) pages answer
    × TellsPages answer status old new len_old len_new end)
