-- A chunk rewritten by the plan of its page.
use Rattle.std.proofs.Common.{◌≡◌, ℕ, ◌+◌, ◌^◌, ◌<◌, ◌≤◌, List, ◌++◌, length, drop, Ok, Err, ap, sym, ◌∙◌, arith}
use Rattle.std.specs.Prelude.{Result, slice_index, nat_lt, if◌then◌else◌}
use Rattle.tiff_base.specs.Answers.{◌>>=◌}
use Rattle.tiff_base.specs.SourceAndSink.{put}
use Rattle.tiff_base.specs.declared.error.TiffError.{TiffError}
use Rattle.tiff_ifd.specs.declared.limits.Limits.{Limits}
use Rattle.tiff_page.specs.ChunkAlone.{with_lists}
use Rattle.tiff_page.specs.Page.{PageRecord}
use Rattle.tiff_page.specs.PixelCalls.{read_chunk_bytes}
use Rattle.tiff_page.specs.lemmas.ChunkAlone.{chunk_alone}
use Rattle.tiff_pages.specs.declared.plan.PagePlan.{PagePlan}
use Rattle.tiff_pages.specs.Plan.{IsPageOfChunk, IsPlanOf, page_of_chunk}
use Rattle.tiff_pages.specs.lemmas.Planned.{plans_make_pages}
use Rattle.tiff_page.specs.Checks.{inconsistent}
use Rattle.tiff_page.specs.Layout.{color_of}
use Rattle.tiff_base.specs.declared.color.ColorType.{ColorType}
use Rattle.tiff_rewrite.specs.Rewrite.{rewrite_fault}
use Rattle.tiff_rewrite.specs.RewriteLaws.{IsRewrittenIn, ListsChunks}
use Rattle.tiff_rewrite.specs.lemmas.ChunkPut.{has_color, shows_rewritten}
use Rattle.tiff_rewrite.specs.PlannedRewrite.{PlannedRewritten, PlansRewritePages, chunk_place, planned_fault, planned_place}

module _ (plan : PagePlan) (file : List ℕ) (opened : Limits) (p : PageRecord) (k : ℕ)
    (wide : length file < 2 ^ 64) (i : IsPlanOf plan file opened p) where
  told : IsPageOfChunk p k (plans_make_pages plan file opened p k wide i).0
  told = (plans_make_pages plan file opened p k wide i).1.1

  abbrev q : PageRecord
  q = with_lists p told.extra told.offsets told.byte_counts

  made : page_of_chunk file plan k ≡ Ok q
  made = (plans_make_pages plan file opened p k wide i).1.0 ∙ ap Ok told.same

  place_is : planned_place file plan k ≡ chunk_place p k
  unfolding planned_place chunk_place
  place_is =
      ap (λ (r : Result PageRecord TiffError). r >>= (λ page. chunk_place page k)) made
      ∙ (λ t. if nat_lt k (told.tells.chunks t) then
      Ok (told.tells.offset t, told.tells.byte_count t) else Err inconsistent)

  module _ (limits : Limits) (samples old new buf : List ℕ) (passed : planned_fault file plan limits k (length samples) (length old) ≡ Ok tt)
      (rewritten : PlannedRewritten file plan k samples old new) (within : slice_index p.offsets k + length new ≤ length file) (fits : length samples ≤ length buf) where
    passed_too : rewrite_fault q limits k (length samples) (length old) ≡ Ok tt
    unfolding planned_fault
    passed_too =
        sym (ap (λ (r : Result PageRecord TiffError). r
        >>= (λ page. rewrite_fault page limits k (length samples) (length old))) made) ∙ passed

    color : (c : ColorType) × (color_of q ≡ Ok c)
    color = has_color q limits k (length samples) (length old) passed_too

    lists : ListsChunks q color.0
    lists = record {
      sides =
          record { wide = i.page.sides.wide; high = i.page.sides.high; chunk_wide = i.page.sides.chunk_wide; chunk_high = i.page.sides.chunk_high };
      sampled = i.page.sampled;
      counted = told.tells.chunks ∙ i.page.counted;
      colored = color.1;
    }

    is_rewritten : IsRewrittenIn file plan.order q limits color.0 k samples old new
    is_rewritten = record {
      page = lists;
      passed = passed_too;
      rewritten = rewritten q color.0 made color.1;
      within = omega (arith, told.tells.offset, within);
    }

    read_is : read_chunk_bytes (put file (slice_index p.offsets k) new) plan.order p limits k buf
        ≡ Ok (samples ++ drop (length samples) buf)
    read_is =
        sym (chunk_alone.bytes (put file (slice_index p.offsets k) new) plan.order p limits k buf told.extra told.offsets told.byte_counts i.page.sides i.page.sampled i.page.counted told.tells)
        ∙ sym (λ t. read_chunk_bytes (put file (told.tells.offset t) new) plan.order q limits k buf)
        ∙ shows_rewritten.read file plan.order q limits color.0 k samples old new buf is_rewritten fits

pub plans_rewrite_pages : PlansRewritePages
plans_rewrite_pages = record {
  place = λ plan file opened p k wide i. place_is plan file opened p k wide i;
  read =
      λ plan file opened p limits k samples old new buf wide i passed rewritten within fits. read_is plan file opened p k wide i limits samples old new buf passed rewritten within fits;
}
