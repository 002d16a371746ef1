-- Where a chunk is, and a chunk rewritten by the plan of its page (this project's).
use Rattle.std.specs.Prelude.{◌≡◌, ℕ, ◌+◌, ◌^◌, ◌<◌, ◌≤◌, ◌++◌, List, drop, if◌then◌else◌, length, nat_lt, slice_index, Result, Ok, Err}
use Rattle.tiff_base.specs.declared.color.ColorType.{ColorType}
use Rattle.tiff_base.specs.declared.error.TiffError.{TiffError}
use Rattle.tiff_base.specs.Answers.{◌>>=◌}
use Rattle.tiff_base.specs.SourceAndSink.{put}
use Rattle.tiff_ifd.specs.declared.limits.Limits.{Limits}
use Rattle.tiff_page.specs.Checks.{inconsistent}
use Rattle.tiff_page.specs.Layout.{color_of}
use Rattle.tiff_page.specs.Page.{PageRecord}
use Rattle.tiff_page.specs.PixelCalls.{read_chunk_bytes}
use Rattle.tiff_pages.specs.declared.plan.PagePlan.{PagePlan}
use Rattle.tiff_pages.specs.Plan.{IsPlanOf, page_of_chunk, read_planned}
use Rattle.tiff_rewrite.specs.Rewrite.{ChunkRewritten, rewrite_fault}

-- the offset and the byte count of chunk k of a page
unfoldable pub chunk_place : PageRecord → ℕ → Result (ℕ × ℕ) TiffError
chunk_place p k = if nat_lt k (length p.offsets)
    then Ok (slice_index p.offsets k, slice_index p.byte_counts k) else Err inconsistent

-- the offset and the byte count of the plan's chunk k
unfoldable pub planned_place : List ℕ → PagePlan → ℕ → Result (ℕ × ℕ) TiffError
planned_place file plan k = do
  page ← page_of_chunk file plan k
  chunk_place page k

-- the error of the plan's chunk k that isn't rewritten, of `len` bytes of samples and of stored
-- bytes
unfoldable pub planned_fault : List ℕ → PagePlan → Limits → ℕ → ℕ → ℕ
    → Result (Unit {0}) TiffError
planned_fault file plan limits k len stored = do
  page ← page_of_chunk file plan k
  rewrite_fault page limits k len stored

-- The stored bytes of the plan's chunk k were changed into those that output these samples.
abbrev pub PlannedRewritten : List ℕ → PagePlan → ℕ → List ℕ → List ℕ → List ℕ → Type 0
PlannedRewritten file plan k samples old new = (page : PageRecord) (color : ColorType)
    → page_of_chunk file plan k ≡ Ok page → color_of page ≡ Ok color
    → ChunkRewritten plan.order page color k samples old new

-- A chunk rewritten by the plan of a page is rewritten in that page: it is where the page has it,
-- and after its new bytes are put there, a read of the chunk of the page gives the samples.
pub record PlansRewritePages : Type 0 where
  pub place : (plan : PagePlan) (file : List ℕ) (opened : Limits) (p : PageRecord) (k : ℕ)
      → length file < 2 ^ 64 → IsPlanOf plan file opened p
      → planned_place file plan k ≡ chunk_place p k
  pub read : (plan : PagePlan) (file : List ℕ) (opened : Limits) (p : PageRecord)
      (limits : Limits) (k : ℕ) (samples old new buf : List ℕ)
      → length file < 2 ^ 64 → IsPlanOf plan file opened p
      → planned_fault file plan limits k (length samples) (length old) ≡ Ok tt
      → PlannedRewritten file plan k samples old new
      → slice_index p.offsets k + length new ≤ length file
      → length samples ≤ length buf
      → read_chunk_bytes (put file (slice_index p.offsets k) new) plan.order p limits k buf
      ≡ Ok (samples ++ drop (length samples) buf)

-- A chunk rewritten by a plan shows the samples: after its new bytes are put where the chunk is, a
-- read of the chunk by the plan gives them, if the plan still finds it there.
abbrev pub PlansShowRewritten : Type 0
PlansShowRewritten = (plan : PagePlan) (file : List ℕ) (limits : Limits) (k : ℕ) (place : ℕ × ℕ)
    (samples old new buf : List ℕ)
    → planned_place file plan k ≡ Ok place
    → planned_fault file plan limits k (length samples) (length old) ≡ Ok tt
    → PlannedRewritten file plan k samples old new
    → place.0 + length new ≤ length file
    → planned_place (put file place.0 new) plan k ≡ Ok place
    → length samples ≤ length buf
    → read_planned (put file place.0 new) plan limits k buf
    ≡ Ok (samples ++ drop (length samples) buf)
