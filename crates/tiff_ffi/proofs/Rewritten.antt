-- What a call without a value leaves, by its status.
use Rattle.std.proofs.Common.{◌≡◌, ℕ, List, length, Result, Ok, Err, OnErr, OnOk, refl, ap, sym, ◌∙◌}
use Rattle.tiff_base.specs.declared.error.TiffError.{TiffError}
use Rattle.tiff_base.specs.Answers.{AnswersWithoutSource}
use Rattle.tiff_base.specs.Answers.{◌>>=◌}
use Rattle.tiff_base.specs.SourceAndSink.{put}
use Rattle.tiff_ifd.specs.Limits.{unlimited}
use Rattle.tiff_pages.specs.declared.plan.PagePlan.{PagePlan}
use Rattle.tiff_pages.specs.Plan.{read_planned}
use Rattle.tiff_rewrite.specs.PlannedRewrite.{planned_place}
use Rattle.tiff_rewrite.specs.lemmas.ChunkPut.{first_passed}
use Rattle.tiff_rewrite.specs.lemmas.PlannedShown.{plans_show_rewritten}
use Rattle.tiff_ffi.specs.declared.plan.PlannedPage.{PlannedPage}
use Rattle.tiff_ffi.specs.declared.rewrite.PlacedChunk.{PlacedChunk}
use Rattle.tiff_ffi.specs.Plan.{plan_from, read_planned_chunk}
use Rattle.tiff_ffi.specs.Rewrite.{IsRewritten, ShowsSamples, chunk_place, rewrite_fault}
use Rattle.tiff_ffi.specs.Status.{status, StatusTells}
use Rattle.tiff_ffi.proofs.Delivered.{none}
use Rattle.tiff_ffi.proofs.StatusTells.{tells_left}

pub tells_done : (answer given : Result (Unit {0}) TiffError) (n : ℕ)
    → AnswersWithoutSource (λ x. tt) answer given → n ≡ status answer → StatusTells given n tt
tells_done (Ok x) given n h is = tells_left {X = Unit {0}} (λ y. tt) (Ok x) given n tt h is refl
tells_done (Err e) given n h is = tells_left {X = Unit {0}} (λ y. tt) (Err e) given n tt h is tt

pub done_holds : (answer : Result (Unit {0}) TiffError) (n : ℕ) (P : Type 0) → OnOk answer P
    → n ≡ status answer → n ≡ 0 → P
done_holds (Ok x) n P h is zero = h
done_holds (Err e) n P h is zero = absurd (none e n is zero)

pub refused_holds : (answer : Result (Unit {0}) TiffError) (n : ℕ) (P : Type 0) → OnErr answer P
    → n ≡ status answer → (n ≡ 0 → ⊥) → P
refused_holds (Ok x) n P h is some = absurd (some is)
refused_holds (Err e) n P h is some = h

-- ---- a chunk that is rewritten

one_chunk : (r : Result PlacedChunk TiffError) (a b : PlacedChunk) → r ≡ Ok a → r ≡ Ok b → a ≡ b
one_chunk r a b e f = cc

-- where a chunk is by a plan, as its numbers tell it
placed_by : (file : List ℕ) (numbers : PlannedPage) (chunk : ℕ) (plan : PagePlan)
    (place : PlacedChunk) → plan_from numbers ≡ Ok plan → chunk_place file numbers chunk ≡ Ok place
    → planned_place file plan chunk ≡ Ok (place.offset, place.byte_count)
unfolding chunk_place
placed_by file numbers chunk plan place e h =
    let given : (planned_place file plan chunk
    >>= (λ pl. Ok (record { offset = pl.0; byte_count = pl.1 }))) ≡ Ok place =
    sym (ap (λ (r : Result PagePlan TiffError). r
    >>= (λ p. planned_place file p chunk >>= (λ pl. Ok (record { offset = pl.0; byte_count = pl.1 })))) e) ∙ h in
    let a = first_passed (planned_place file plan chunk) _ given in
    let told : PlacedChunk = record { offset = a.0.0; byte_count = a.0.1 } in
    let same : told ≡ place = one_chunk (Ok place) told place (sym a.1.1) refl in
    a.1.0 ∙ ap (λ (t : PlacedChunk). Ok (t.offset, t.byte_count)) same

shows_by : (file : List ℕ) (numbers : PlannedPage) (chunk : ℕ) (samples old new : List ℕ)
    → rewrite_fault file numbers chunk (length samples) (length old) ≡ Ok tt
    → IsRewritten file numbers chunk samples old new → ShowsSamples file numbers chunk samples new
unfolding rewrite_fault read_planned_chunk
shows_by file numbers chunk samples old new passed rewritten place slice here within there fits =
    let a = first_passed (plan_from numbers) _ passed in
    let plan : PagePlan = a.0 in
    ap (λ (r : Result PagePlan TiffError). r >>= (λ p. read_planned (put file place.offset new) p unlimited chunk slice)) a.1.0
    ∙ plans_show_rewritten plan file unlimited chunk (place.offset, place.byte_count) samples old new slice (placed_by file numbers chunk plan place a.1.0 here) a.1.1 (rewritten plan a.1.0) within
    (placed_by (put file place.offset new) numbers chunk plan place a.1.0 there) fits

pub status_shows : (file : List ℕ) (numbers : PlannedPage) (chunk : ℕ) (samples old new : List ℕ)
    (answer : Result (Unit {0}) TiffError) (n : ℕ)
    → AnswersWithoutSource (λ x. tt) answer (rewrite_fault file numbers chunk (length samples) (length old)) → OnOk answer (IsRewritten file numbers chunk samples old new)
    → n ≡ status answer → n ≡ 0 → ShowsSamples file numbers chunk samples new
status_shows file numbers chunk samples old new (Ok x) n given h is zero =
    shows_by file numbers chunk samples old new given h
status_shows file numbers chunk samples old new (Err e) n given h is zero =
    absurd (none e n is zero)
