-- Where a chunk is in a file, and one chunk rewritten in place, by the plan of a page as plain
-- numbers.
use Rattle.std.specs.Prelude.{◌≡◌, ℕ, ◌+◌, ◌≤◌, List, ◌++◌, drop, length, Result, Ok}
use Rattle.tiff_base.specs.declared.error.TiffError.{TiffError}
use Rattle.tiff_base.specs.Answers.{◌>>=◌}
use Rattle.tiff_base.specs.SourceAndSink.{put}
use Rattle.tiff_ifd.specs.Limits.{unlimited}
use Rattle.tiff_pages.specs.declared.plan.PagePlan.{PagePlan}
use Rattle.tiff_rewrite.specs.PlannedRewrite.{PlannedRewritten, planned_fault, planned_place}
use Rattle.tiff_ffi.specs.declared.plan.PlannedPage.{PlannedPage}
use Rattle.tiff_ffi.specs.declared.rewrite.PlacedChunk.{PlacedChunk}
use Rattle.tiff_ffi.specs.Plan.{plan_from, read_planned_chunk}

-- where a chunk is, by the numbers of a plan
unfoldable pub chunk_place : List ℕ → PlannedPage → ℕ → Result PlacedChunk TiffError
chunk_place file numbers chunk = do
  plan ← plan_from numbers
  place ← planned_place file plan chunk
  Ok (record { offset = place.0; byte_count = place.1 })

-- the error of a chunk that isn't rewritten by the numbers of a plan, of `len` bytes of samples and
-- of stored bytes
unfoldable pub rewrite_fault : List ℕ → PlannedPage → ℕ → ℕ → ℕ → Result (Unit {0}) TiffError
rewrite_fault file numbers chunk len stored = do
  plan ← plan_from numbers
  planned_fault file plan unlimited chunk len stored

-- The stored bytes of a chunk of the plan with these numbers were changed into those that output
-- these samples.
abbrev pub IsRewritten : List ℕ → PlannedPage → ℕ → List ℕ → List ℕ → List ℕ → Type 0
IsRewritten file numbers chunk samples old new = (plan : PagePlan) → plan_from numbers ≡ Ok plan
    → PlannedRewritten file plan chunk samples old new

-- After the new bytes of a chunk are put where it is, a read of the chunk by these numbers gives
-- the samples, if they still find it there.
abbrev pub ShowsSamples : List ℕ → PlannedPage → ℕ → List ℕ → List ℕ → Type 0
ShowsSamples file numbers chunk samples new = (place : PlacedChunk) (slice : List ℕ)
    → chunk_place file numbers chunk ≡ Ok place
    → place.offset + length new ≤ length file
    → chunk_place (put file place.offset new) numbers chunk ≡ Ok place
    → length samples ≤ length slice
    → read_planned_chunk (put file place.offset new) numbers chunk slice
    ≡ Ok (samples ++ drop (length samples) slice)
