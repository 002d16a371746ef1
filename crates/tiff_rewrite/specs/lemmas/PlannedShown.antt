-- A chunk that is rewritten by a plan, read by the plan.
use Rattle.std.proofs.Common.{◌≡◌, ℕ, ◌+◌, ◌^◌, ◌<◌, ◌≤◌, Bool, true, false, List, [], ◌++◌, length, replicate, drop, Ok, Err, refl, ap, sym, ◌∙◌, arith, ⊎_elim}
use Rattle.std.specs.Prelude.{Result, slice_index, nat_lt, ◌&&◌}
use Rattle.std.proofs.lemmas.Bool.{cases_Bool, ltb-true}
use Rattle.std.proofs.lemmas.Grind.{common_steps}
use Rattle.std.proofs.lemmas.List.{get_or-set_same, length-replicate, length-set}
use Rattle.tiff_base.specs.Answers.{◌>>=◌}
use Rattle.tiff_base.specs.SourceAndSink.{put}
use Rattle.tiff_base.specs.declared.color.ColorType.{ColorType}
use Rattle.tiff_base.specs.declared.error.TiffError.{TiffError}
use Rattle.tiff_ifd.specs.declared.limits.Limits.{Limits}
use Rattle.tiff_page.specs.Checks.{inconsistent}
use Rattle.tiff_page.specs.Counts.{all_chunks}
use Rattle.tiff_page.specs.Layout.{color_of}
use Rattle.tiff_page.specs.Lists.{one_known}
use Rattle.tiff_page.specs.Page.{PageRecord}
use Rattle.tiff_page.specs.PixelCalls.{read_chunk_bytes}
use Rattle.tiff_pages.specs.declared.plan.PagePlan.{PagePlan}
use Rattle.tiff_pages.specs.Plan.{IsSized, chunks_planned, extra_of, is_sized, page_of_chunk, page_with, place_planned, read_planned}
use Rattle.tiff_rewrite.specs.Rewrite.{rewrite_fault}
use Rattle.tiff_rewrite.specs.RewriteLaws.{IsRewrittenIn, ListsChunks}
use Rattle.tiff_rewrite.specs.lemmas.ChunkPut.{first_passed, has_color, shows_rewritten}
use Rattle.tiff_rewrite.specs.PlannedRewrite.{PlannedRewritten, PlansShowRewritten, chunk_place, planned_fault, planned_place}

-- ---- the chunks of a plan

sized : (plan : PagePlan) → is_sized plan ≡ true → IsSized plan
sized plan h = grind (arith, common_steps, h)

one_count : (r : Result ℕ TiffError) (a b : ℕ) → r ≡ Ok a → r ≡ Ok b → a ≡ b
one_count r a b e f = cc

-- the sizes of a plan that has so many chunks
pub record HasChunks (plan : PagePlan) (count : ℕ) : Type 0 where
  pub sizes : IsSized plan
  pub counted : count ≡ all_chunks (page_with plan [] [] [])

has_chunks : (plan : PagePlan) (count : ℕ) → chunks_planned plan ≡ Ok count → HasChunks plan count
unfolding chunks_planned
has_chunks plan count h =
    let all : ℕ = all_chunks (page_with plan [] [] []) in
    ⊎_elim
    (λ (t : is_sized plan && nat_lt all (2 ^ 32) ≡ true).
    let e : Ok all ≡ Ok count = rw t at h in
    record { sizes = sized plan (first_of (is_sized plan) (nat_lt all (2 ^ 32)) t); counted = sym (one_count (Ok count) all count (sym e) refl) })
    (λ (f : is_sized plan && nat_lt all (2 ^ 32) ≡ false).
    let e : inconsistent_count ≡ Ok count = rw f at h in Prim.absurd (never count e))
    (cases_Bool (is_sized plan && nat_lt all (2 ^ 32)))
  where
    inconsistent_count : Result ℕ TiffError
    inconsistent_count = Err inconsistent

    never : (n : ℕ) → inconsistent_count ≡ Ok n → ⊥
    never n e = cc

    first_of : (a b : Bool) → a && b ≡ true → a ≡ true
    first_of true b t = refl
    first_of false b t = cc

-- the page of a chunk that is at a place
abbrev pub placed : PagePlan → ℕ → ℕ → ℕ × ℕ → PageRecord
placed plan count k place =
    page_with plan (extra_of plan) (one_known count k place.0) (one_known count k place.1)

pub record IsPlaced (file : List ℕ) (plan : PagePlan) (k : ℕ) (place : ℕ × ℕ) : Type 0 where
  pub count : ℕ
  pub counted : chunks_planned plan ≡ Ok count
  pub below : k < count
  pub made : page_of_chunk file plan k ≡ Ok (placed plan count k place)

known_here : (count k n : ℕ) → k < count → slice_index (one_known count k n) k ≡ n
known_here count k n l =
    get_or-set_same (replicate count 0) k n 0 (omega (arith, l, length-replicate {A = ℕ} count 0))

known_len : (count k n : ℕ) → length (one_known count k n) ≡ count
known_len count k n = length-set {A = ℕ} (replicate count 0) k n ∙ length-replicate {A = ℕ} count 0

one_page : (r : Result PageRecord TiffError) (a b : PageRecord) → r ≡ Ok a → r ≡ Ok b → a ≡ b
one_page r a b e f = cc

one_place : (r : Result (ℕ × ℕ) TiffError) (a b : ℕ × ℕ) → r ≡ Ok a → r ≡ Ok b → a ≡ b
one_place r a b e f = cc

placed_at : (plan : PagePlan) (count k : ℕ) (pl place : ℕ × ℕ)
    → chunk_place (placed plan count k pl) k ≡ Ok place → (k < count) × (pl ≡ place)
unfolding chunk_place
placed_at plan count k pl place h =
    let long : length (one_known count k pl.0) ≡ count = known_len count k pl.0 in
    ⊎_elim
    (λ (t : nat_lt k (length (one_known count k pl.0)) ≡ true).
    let below : k < count = omega (arith, ltb-true k (length (one_known count k pl.0)) t, long) in
    let e : Ok (slice_index (one_known count k pl.0) k, slice_index (one_known count k pl.1) k)
    ≡ Ok place = rw t at h in
    let same : (slice_index (one_known count k pl.0) k, slice_index (one_known count k pl.1) k)
    ≡ place = one_place (Ok place) _ place (sym e) refl in
    (below, sym (λ i. (known_here count k pl.0 below i, known_here count k pl.1 below i)) ∙ same))
    (λ (f : nat_lt k (length (one_known count k pl.0)) ≡ false).
    let e : nowhere ≡ Ok place = rw f at h in Prim.absurd (never e))
    (cases_Bool (nat_lt k (length (one_known count k pl.0))))
  where
    nowhere : Result (ℕ × ℕ) TiffError
    nowhere = Err inconsistent

    never : nowhere ≡ Ok place → ⊥
    never e = cc

is_placed : (file : List ℕ) (plan : PagePlan) (k : ℕ) (place : ℕ × ℕ)
    → planned_place file plan k ≡ Ok place → IsPlaced file plan k place
unfolding planned_place page_of_chunk
is_placed file plan k place h =
    let a = first_passed (page_of_chunk file plan k) _ h in
    let b = first_passed (chunks_planned plan) _ a.1.0 in
    let d = first_passed (place_planned file plan b.0 k) _ b.1.1 in
    let same : placed plan b.0 k d.0 ≡ a.0 =
    one_page (page_of_chunk file plan k) (placed plan b.0 k d.0) a.0 (a.1.0
    ∙ sym d.1.1) a.1.0 in
    let at =
    placed_at plan b.0 k d.0 place (ap (λ (q : PageRecord). chunk_place q k) same ∙ a.1.1) in
    record { count = b.0; counted = b.1.0; below = at.0; made = a.1.0 ∙ sym d.1.1 ∙ ap (λ (pl : ℕ × ℕ). Ok (placed plan b.0 k pl)) at.1 }

module _ (plan : PagePlan) (file : List ℕ) (limits : Limits) (k : ℕ) (place : ℕ × ℕ)
    (samples old new buf : List ℕ)
    (a : IsPlaced file plan k place) (passed : planned_fault file plan limits k (length samples) (length old) ≡ Ok tt) (rewritten : PlannedRewritten file plan k samples old new)
    (within : place.0 + length new ≤ length file) (b : IsPlaced (put file place.0 new) plan k place)
    (fits : length samples ≤ length buf) where
  abbrev q : PageRecord
  q = placed plan a.count k place

  made_after : page_of_chunk (put file place.0 new) plan k ≡ Ok q
  made_after =
      b.made ∙ ap (λ (n : ℕ). Ok (placed plan n k place)) (one_count (chunks_planned plan) b.count a.count b.counted a.counted)

  passed_too : rewrite_fault q limits k (length samples) (length old) ≡ Ok tt
  unfolding planned_fault
  passed_too =
      sym (ap (λ (r : Result PageRecord TiffError). r
      >>= (λ page. rewrite_fault page limits k (length samples) (length old))) a.made) ∙ passed

  color : (c : ColorType) × (color_of q ≡ Ok c)
  color = has_color q limits k (length samples) (length old) passed_too

  has : HasChunks plan a.count
  has = has_chunks plan a.count a.counted

  lists : ListsChunks q color.0
  lists = record {
    sides =
        record { wide = has.sizes.wide; high = has.sizes.high; chunk_wide = has.sizes.chunk_wide; chunk_high = has.sizes.chunk_high };
    sampled = has.sizes.sampled;
    counted = known_len a.count k place.0 ∙ has.counted;
    colored = color.1;
  }

  at_place : slice_index q.offsets k ≡ place.0
  at_place = known_here a.count k place.0 a.below

  is_rewritten : IsRewrittenIn file plan.order q limits color.0 k samples old new
  is_rewritten =
      record { page = lists; passed = passed_too; rewritten = rewritten q color.0 a.made color.1; within = omega (arith, at_place, within) }

  read_is : read_planned (put file place.0 new) plan limits k buf
      ≡ Ok (samples ++ drop (length samples) buf)
  unfolding read_planned
  read_is =
      ap (λ (r : Result PageRecord TiffError). r
      >>= (λ page. read_chunk_bytes (put file place.0 new) plan.order page limits k buf)) made_after
      ∙ sym (λ t. read_chunk_bytes (put file (at_place t) new) plan.order q limits k buf)
      ∙ shows_rewritten.read file plan.order q limits color.0 k samples old new buf is_rewritten fits

pub plans_show_rewritten : PlansShowRewritten
plans_show_rewritten plan file limits k place samples old new buf here passed rewritten within there fits =
    read_is plan file limits k place samples old new buf (is_placed file plan k place here) passed rewritten within (is_placed (put file place.0 new) plan k place there) fits
