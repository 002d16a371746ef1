-- The plan of a page: what the tags of the page define, except its lists, and where its offsets and
-- byte counts are; and a chunk read by a plan (this project's).
use Rattle.std.specs.Prelude.{◌≡◌, ℕ, ◌^◌, ◌<◌, ◌≤◌, Bool, true, ◌&&◌, if◌then◌else◌, nat_le, nat_lt, unwrap_or, List, [], length, replicate, Option, None, Some, Result, Ok, Err}
use Rattle.std.specs.FinMap.{get}
use Rattle.std.specs.List.{slice_get}
use Rattle.tiff_base.specs.declared.color.ChunkType.{ChunkType}
use Rattle.tiff_base.specs.declared.color.ChunkType.TheVariants.{Strip, Tile}
use Rattle.tiff_base.specs.declared.error.TiffError.{TiffError}
use Rattle.tiff_base.specs.declared.tags.ByteOrder.{ByteOrder}
use Rattle.tiff_base.specs.declared.tags.ExtraSamples.{ExtraSamples}
use Rattle.tiff_base.specs.declared.tags.ExtraSamples.TheVariants.{Unspecified}
use Rattle.tiff_base.specs.declared.tags.FileKind.{FileKind}
use Rattle.tiff_base.specs.declared.tags.Tag.{Tag}
use Rattle.tiff_base.specs.declared.tags.Tag.TheVariants.{StripByteCounts, StripOffsets, TileByteCounts, TileOffsets}
use Rattle.tiff_base.specs.Answers.{◌>>=◌}
use Rattle.tiff_base.specs.Field.{DirectoryRecord, Field}
use Rattle.tiff_base.specs.SourceAndSink.{SourceRecord}
use Rattle.tiff_base.specs.Tags.{tag_number}
use Rattle.tiff_ifd.specs.declared.limits.Limits.{Limits}
use Rattle.tiff_ifd.specs.OneNumber.{NumberReadable, is_unsigned, one_number}
use Rattle.tiff_ifd.specs.TagLookup.{look_in}
use Rattle.tiff_ifd.specs.Unsigned.{field_numbers}
use Rattle.tiff_page.specs.declared.layout.BufferLayoutPreference.{BufferLayoutPreference}
use Rattle.tiff_page.specs.Buffers.{image_chunk_buffer_layout}
use Rattle.tiff_page.specs.Checks.{inconsistent, page_of}
use Rattle.tiff_page.specs.ChunkAlone.{TellOfChunk, with_lists}
use Rattle.tiff_page.specs.Counts.{all_chunks}
use Rattle.tiff_page.specs.EarlyFaults.{chunk_bytes_early}
use Rattle.tiff_page.specs.Laws.{HasSides}
use Rattle.tiff_page.specs.Layout.{first_is_alpha}
use Rattle.tiff_page.specs.Lists.{one_known}
use Rattle.tiff_page.specs.Page.{PageRecord}
use Rattle.tiff_page.specs.PixelCalls.{read_chunk_bytes}
use Rattle.tiff_page.specs.Reach.{ChunksReadable}
use Rattle.tiff_pages.specs.declared.plan.PagePlan.{PagePlan}

-- the page that a plan has, with these lists
abbrev pub page_with : PagePlan → List ExtraSamples → List ℕ → List ℕ → PageRecord
page_with plan extra offsets byte_counts = record {
  width = plan.width;
  height = plan.height;
  interpretation = plan.interpretation;
  method = plan.method;
  samples = plan.samples;
  extra = extra;
  format = plan.format;
  depth = plan.depth;
  predictor = plan.predictor;
  planar = plan.planar;
  subsampling = (plan.subsampling.0, plan.subsampling.1);
  chunk_type = plan.chunk_type;
  chunk_width = plan.chunk_width;
  chunk_height = plan.chunk_height;
  offsets = offsets;
  byte_counts = byte_counts;
}

-- what is known of the extra samples: how many they are, and what the first one means
abbrev pub extra_of : PagePlan → List ExtraSamples
extra_of plan = replicate plan.extra_count plan.first_extra

-- ---- whose plan it is

-- The facts of every page: it has pixels and chunks, and an offset and a byte count of each chunk.
pub record IsPage (p : PageRecord) : Type 0 where
  pub sides : HasSides p
  pub sampled : 0 < p.samples
  pub extras : length p.extra ≤ p.samples
  pub has_bits : 0 < p.depth
  pub counted : length p.offsets ≡ all_chunks p
  pub counted_bytes : length p.byte_counts ≡ length p.offsets
  pub few : length p.offsets < 2 ^ 32

-- A field has these numbers, and is of a type of which one can be read alone.
pub record HasNumbers (kind : FileKind) (order : ByteOrder) (file : List ℕ) (limits : Limits)
    (f : Field) (numbers : List ℕ) : Type 0 where
  pub unsigned : is_unsigned f.field_type ≡ true
  pub whole : length f.value ≡ 8
  pub has : field_numbers kind order file limits f ≡ Ok numbers

-- The plan is that of a page of a file, which was read under these limits: it has what the page
-- has, and its fields have the page's offsets and byte counts.
pub record IsPlanOf (plan : PagePlan) (file : List ℕ) (limits : Limits) (p : PageRecord)
    : Type 0 where
  pub page : IsPage p
  pub facts : page_with plan p.extra p.offsets p.byte_counts ≡ p
  pub extras : plan.extra_count ≡ length p.extra
  pub alpha : first_is_alpha (extra_of plan) ≡ first_is_alpha p.extra
  pub offsets : HasNumbers plan.kind plan.order file limits plan.offsets p.offsets
  pub byte_counts : HasNumbers plan.kind plan.order file limits plan.byte_counts p.byte_counts

-- ---- a chunk read by a plan

-- whether a plan has pixels and chunks, and no more extra samples than samples
abbrev pub is_sized : PagePlan → Bool
is_sized plan =
    nat_lt 0 plan.width && nat_lt 0 plan.height && nat_lt 0 plan.samples && nat_lt 0 plan.depth
    && nat_lt 0 plan.chunk_width && nat_lt 0 plan.chunk_height
    && nat_le plan.extra_count plan.samples

pub record IsSized (plan : PagePlan) : Type 0 where
  pub wide : 0 < plan.width
  pub high : 0 < plan.height
  pub sampled : 0 < plan.samples
  pub has_bits : 0 < plan.depth
  pub chunk_wide : 0 < plan.chunk_width
  pub chunk_high : 0 < plan.chunk_height
  pub extras : plan.extra_count ≤ plan.samples

-- the number of chunks of a plan, if it can be that of a page
unfoldable pub chunks_planned : PagePlan → Result ℕ TiffError
chunks_planned plan =
    let count = all_chunks (page_with plan [] [] []) in
    if is_sized plan && nat_lt count (2 ^ 32) then Ok count else Err inconsistent

-- the number with the index k of one of a plan's lists of `count` numbers; 0 past the list
unfoldable pub number_planned : List ℕ → PagePlan → Field → ℕ → ℕ → Result ℕ TiffError
number_planned file plan f count k =
    if nat_lt k count then one_number plan.kind plan.order file f k else Ok 0

-- the offset and the byte count of chunk k of `count` chunks
unfoldable pub place_planned : List ℕ → PagePlan → ℕ → ℕ → Result (ℕ × ℕ) TiffError
place_planned file plan count k = do
  offset ← number_planned file plan plan.offsets count k
  byte_count ← number_planned file plan plan.byte_counts count k
  Ok (offset, byte_count)

-- the plan's page, with the offset and the byte count of chunk k and of no other
unfoldable pub page_of_chunk : List ℕ → PagePlan → ℕ → Result PageRecord TiffError
page_of_chunk file plan k = do
  count ← chunks_planned plan
  place ← place_planned file plan count k
  Ok (page_with plan (extra_of plan) (one_known count k place.0) (one_known count k place.1))

-- A page tells of chunk k what another page does, and nothing of the other chunks but how many they
-- are: it is that page with other lists.
pub record IsPageOfChunk (p : PageRecord) (k : ℕ) (page : PageRecord) : Type 0 where
  pub extra : List ExtraSamples
  pub offsets : List ℕ
  pub byte_counts : List ℕ
  pub same : page ≡ with_lists p extra offsets byte_counts
  pub tells : TellOfChunk p k extra offsets byte_counts

-- a slice after the plan's chunk k is read into it, or the first error
unfoldable pub read_planned : List ℕ → PagePlan → Limits → ℕ → List ℕ → Result (List ℕ) TiffError
read_planned file plan limits k buf = do
  page ← page_of_chunk file plan k
  read_chunk_bytes file plan.order page limits k buf

-- the error that is found before memory is allocated for a chunk that goes into a slice of `len`
-- bytes
unfoldable pub planned_early : List ℕ → PagePlan → Limits → ℕ → ℕ → Result (Unit {0}) TiffError
planned_early file plan limits k len = do
  page ← page_of_chunk file plan k
  chunk_bytes_early page limits k len

-- the layout of a buffer for the plan's chunk k
unfoldable pub planned_layout : PagePlan → ℕ → Result BufferLayoutPreference TiffError
planned_layout plan k = do
  count ← chunks_planned plan
  image_chunk_buffer_layout
      (page_with plan (extra_of plan) (one_known count k 0) (one_known count k 0)) k

-- The source can read the offset and the byte count of chunk k.
pub record PlaceReadable (source : SourceRecord) (plan : PagePlan) (k : ℕ) : Type 0 where
  pub offset : NumberReadable source plan.kind plan.order plan.offsets k
  pub byte_count : NumberReadable source plan.kind plan.order plan.byte_counts k

-- The source can read chunk k by its plan: the chunk's own offset and byte count, and the bytes
-- that are needed of the chunk.
pub record PlannedReadable (source : SourceRecord) (plan : PagePlan) (k : ℕ) : Type 0 where
  pub place : PlaceReadable source plan k
  pub chunk : (page : PageRecord) → page_of_chunk source.bytes plan k ≡ Ok page
      → ChunksReadable source page k (λ l. 1)

-- ---- the plan of a directory

-- the tags of the offsets and of the byte counts of chunks
abbrev pub offsets_tag : ChunkType → Tag
offsets_tag Strip = StripOffsets
offsets_tag Tile = TileOffsets

abbrev pub byte_counts_tag : ChunkType → Tag
byte_counts_tag Strip = StripByteCounts
byte_counts_tag Tile = TileByteCounts

-- the plan of a page, with the fields of its offsets and of its byte counts
abbrev pub plan_with : FileKind → ByteOrder → PageRecord → Field → Field → PagePlan
plan_with kind order p offsets byte_counts = record {
  kind = kind;
  order = order;
  width = p.width;
  height = p.height;
  interpretation = p.interpretation;
  method = p.method;
  samples = p.samples;
  extra_count = length p.extra;
  first_extra = unwrap_or (slice_get p.extra 0) Unspecified;
  format = p.format;
  depth = p.depth;
  predictor = p.predictor;
  planar = p.planar;
  subsampling = (p.subsampling.0, p.subsampling.1);
  chunk_type = p.chunk_type;
  chunk_width = p.chunk_width;
  chunk_height = p.chunk_height;
  offsets = offsets;
  byte_counts = byte_counts;
}

-- the field of a tag, if a number of it can be read alone
abbrev pub listed : Option Field → Option Field
listed None = None
listed (Some f) = if is_unsigned f.field_type then Some f else None

abbrev pub plan_found : FileKind → ByteOrder → PageRecord → Option Field → Option Field
    → Option PagePlan
plan_found kind order p (Some offsets) (Some byte_counts) =
    Some (plan_with kind order p offsets byte_counts)
plan_found kind order p _ _ = None

-- the plan of a page and its directory: none if the numbers of its lists can't be read alone
unfoldable pub plan_of : FileKind → ByteOrder → DirectoryRecord → PageRecord → Option PagePlan
plan_of kind order directory p =
    plan_found kind order p
    (listed (get directory.entries (tag_number (offsets_tag p.chunk_type))))
    (listed (get directory.entries (tag_number (byte_counts_tag p.chunk_type))))

-- the plan of the page of a file's directory, or the first error of the page
unfoldable pub plan_in : FileKind → ByteOrder → List ℕ → Limits → DirectoryRecord
    → Result (Option PagePlan) TiffError
plan_in kind order file limits directory = do
  page ← page_of (look_in kind order file limits directory.entries)
  Ok (plan_of kind order directory page)

-- ---- the laws

-- By the plan of a page, a chunk is what it is by the page: the same bytes or the same error, the
-- same error before it allocates memory, the same bytes asked for beside the chunk's own offset and
-- byte count, and the same layout.
pub record PlansReadPages : Type 0 where
  pub bytes : (plan : PagePlan) (file : List ℕ) (opened : Limits) (p : PageRecord) (limits : Limits)
      (k : ℕ) (buf : List ℕ)
      → length file < 2 ^ 64 → IsPlanOf plan file opened p
      → read_planned file plan limits k buf ≡ read_chunk_bytes file plan.order p limits k buf
  pub early : (plan : PagePlan) (file : List ℕ) (opened : Limits) (p : PageRecord) (limits : Limits)
      (k len : ℕ)
      → length file < 2 ^ 64 → IsPlanOf plan file opened p
      → planned_early file plan limits k len ≡ chunk_bytes_early p limits k len
  pub asked : (plan : PagePlan) (source : SourceRecord) (opened : Limits) (p : PageRecord) (k : ℕ)
      → length source.bytes < 2 ^ 64 → IsPlanOf plan source.bytes opened p
      → PlaceReadable source plan k → ChunksReadable source p k (λ l. 1)
      → PlannedReadable source plan k
  pub layout : (plan : PagePlan) (file : List ℕ) (opened : Limits) (p : PageRecord) (k : ℕ)
      → IsPlanOf plan file opened p
      → planned_layout plan k ≡ image_chunk_buffer_layout p k

-- By the plan of a page there is a page of each chunk, which tells of the chunk what the page does.
abbrev pub PlansMakePages : Type 0
PlansMakePages = (plan : PagePlan) (file : List ℕ) (opened : Limits) (p : PageRecord) (k : ℕ)
    → length file < 2 ^ 64 → IsPlanOf plan file opened p
    → (page : PageRecord) × ((page_of_chunk file plan k ≡ Ok page) × IsPageOfChunk p k page)
