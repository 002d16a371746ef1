-- A chunk read by the plan of a page is the page's.
use Rattle.std.proofs.Common.{◌≡◌, ℕ, ◌-◌, ◌^◌, ◌<◌, ◌≤◌, true, List, [], length, replicate, Ok, refl, ap, sym, ◌∙◌, ⊎_elim, subst, arith}
use Rattle.std.specs.Prelude.{Result, slice_index}
use Rattle.std.proofs.lemmas.Bool.{cases_lt}
use Rattle.std.proofs.Math.ListN.{get_or-eq_default}
use Rattle.std.proofs.lemmas.List.{get_or-set_same, length-replicate, length-set}
use Rattle.std.proofs.lemmas.Grind.{common_steps}
use Rattle.tiff_base.specs.Answers.{◌>>=◌, Answers}
use Rattle.tiff_base.specs.Field.{Field}
use Rattle.tiff_base.specs.SourceAndSink.{SourceRecord}
use Rattle.tiff_base.specs.declared.error.TiffError.{TiffError}
use Rattle.tiff_ifd.specs.declared.limits.Limits.{Limits}
use Rattle.tiff_ifd.specs.OneNumber.{one_number}
use Rattle.tiff_ifd.specs.lemmas.OneNumber.{one_of_numbers}
use Rattle.tiff_page.specs.Buffers.{image_chunk_buffer_layout}
use Rattle.tiff_page.specs.ChunkAlone.{with_lists, TellOfChunk}
use Rattle.tiff_page.specs.Counts.{all_chunks}
use Rattle.tiff_page.specs.EarlyFaults.{chunk_bytes_early}
use Rattle.tiff_page.specs.Lists.{one_known}
use Rattle.tiff_page.specs.Reach.{ChunksReadable}
use Rattle.tiff_page.specs.Page.{PageRecord}
use Rattle.tiff_page.specs.PixelCalls.{read_chunk_bytes}
use Rattle.tiff_page.specs.lemmas.ChunkAlone.{chunk_alone}
use Rattle.tiff_pages.specs.Plan.{chunks_planned, extra_of, is_sized, page_of_chunk, page_with, place_planned, planned_early, planned_layout, number_planned, read_planned, HasNumbers, IsPageOfChunk, IsPlanOf, PlansMakePages, PlansReadPages}
use Rattle.tiff_pages.specs.declared.plan.PagePlan.{PagePlan}

-- a number of a list, read alone, where a list of which no other number is known has it
module _ (plan : PagePlan) (file : List ℕ) (opened : Limits) (f : Field) (numbers : List ℕ)
    (has : HasNumbers plan.kind plan.order file opened f numbers)
    (wide : length file < 2 ^ 64) (count k : ℕ) (many : length numbers ≡ count) where
  listed_number : k < count → number_planned file plan f count k
      ≡ one_number plan.kind plan.order file f k
  unfolding number_planned
  listed_number below = grind (arith, common_steps, below)

  no_number : count ≤ k → number_planned file plan f count k ≡ Ok 0
  unfolding number_planned
  no_number past = grind (arith, common_steps, past)

  number_is : (n : ℕ) × ((number_planned file plan f count k ≡ Ok n)
      × (slice_index (one_known count k n) k ≡ slice_index numbers k))
  number_is =
      ⊎_elim
      (λ (below : k < count).
      let below_too : k < length numbers = omega (arith, below, many) in
      let zeros : length (replicate count 0) ≡ count = length-replicate {A = ℕ} count 0 in
      let within : k < length (replicate count 0) = omega (arith, below, zeros) in (
        slice_index numbers k,
        (
          listed_number below ∙ one_of_numbers plan.kind plan.order file opened f numbers k wide has.unsigned has.whole has.has below_too,
          get_or-set_same (replicate count 0) k (slice_index numbers k) 0 within,
        ),
      ))
      (λ (past : count ≤ k).
      let none : length (one_known count k 0) ≤ k =
      omega (arith, past, length-set {A = ℕ} (replicate count 0) k 0, length-replicate {A = ℕ} count 0) in
      let none_too : length numbers ≤ k = omega (arith, past, many) in
      (0, (no_number past, get_or-eq_default (one_known count k 0) 0 none ∙ sym (get_or-eq_default numbers 0 none_too))))
      (cases_lt k count)

module _ (plan : PagePlan) (file : List ℕ) (opened : Limits) (p : PageRecord)
    (i : IsPlanOf plan file opened p) where
  -- a plan has the sizes of its page
  sized : is_sized plan ≡ true
  sized =
      let width : plan.width ≡ p.width = ap (λ (q : PageRecord). q.width) i.facts in
      let height : plan.height ≡ p.height = ap (λ (q : PageRecord). q.height) i.facts in
      let samples : plan.samples ≡ p.samples = ap (λ (q : PageRecord). q.samples) i.facts in
      let depth : plan.depth ≡ p.depth = ap (λ (q : PageRecord). q.depth) i.facts in
      let chunk_width : plan.chunk_width ≡ p.chunk_width =
      ap (λ (q : PageRecord). q.chunk_width) i.facts in
      let chunk_height : plan.chunk_height ≡ p.chunk_height =
      ap (λ (q : PageRecord). q.chunk_height) i.facts in
      grind (
        arith,
        common_steps,
        width,
        height,
        samples,
        depth,
        chunk_width,
        chunk_height,
        i.page.sides.wide,
        i.page.sides.high,
        i.page.sides.chunk_wide,
        i.page.sides.chunk_high,
        i.page.sampled,
        i.page.has_bits,
        i.page.extras,
        i.extras,
      )

  all_is : all_chunks (page_with plan [] [] []) ≡ length p.offsets
  all_is = ap all_chunks i.facts ∙ sym i.page.counted

  -- a plan has as many chunks as its page
  count_by : (count : ℕ) → count < 2 ^ 64 → all_chunks (page_with plan [] [] []) ≡ count
      → count < 2 ^ 32 → chunks_planned plan ≡ Ok count
  unfolding chunks_planned
  count_by count l e few = grind (arith, common_steps, sized, e, few)

  count_is : chunks_planned plan ≡ Ok (length p.offsets)
  count_is = count_by (length p.offsets) (omega (arith, i.page.few)) all_is i.page.few

  module _ (wide : length file < 2 ^ 64) (k : ℕ) where
    abbrev count : ℕ
    count = length p.offsets

    offset_is : (n : ℕ) × ((number_planned file plan plan.offsets count k ≡ Ok n)
        × (slice_index (one_known count k n) k ≡ slice_index p.offsets k))
    offset_is = number_is plan file opened plan.offsets p.offsets i.offsets wide count k refl

    byte_count_is : (n : ℕ) × ((number_planned file plan plan.byte_counts count k ≡ Ok n)
        × (slice_index (one_known count k n) k ≡ slice_index p.byte_counts k))
    byte_count_is =
        number_is plan file opened plan.byte_counts p.byte_counts i.byte_counts wide count k i.page.counted_bytes

    abbrev offsets : List ℕ
    offsets = one_known count k offset_is.0

    abbrev byte_counts : List ℕ
    byte_counts = one_known count k byte_count_is.0

    place_is : place_planned file plan count k ≡ Ok (offset_is.0, byte_count_is.0)
    unfolding place_planned
    place_is =
        ap (λ (r : Result ℕ TiffError). r >>= (λ offset. number_planned file plan plan.byte_counts count k >>= (λ byte_count. Ok (offset, byte_count)))) offset_is.1.0
        ∙ ap (λ (r : Result ℕ TiffError). r >>= (λ byte_count. Ok (offset_is.0, byte_count))) byte_count_is.1.0

    page_is : page_of_chunk file plan k ≡ Ok (with_lists p (extra_of plan) offsets byte_counts)
    unfolding page_of_chunk
    page_is =
        ap (λ (r : Result ℕ TiffError). r >>= (λ count. place_planned file plan count k
        >>= (λ place. Ok (page_with plan (extra_of plan) (one_known count k place.0) (one_known count k place.1))))) count_is
        ∙ ap (λ (r : Result (ℕ × ℕ) TiffError). r
        >>= (λ place. Ok (page_with plan (extra_of plan) (one_known count k place.0) (one_known count k place.1)))) place_is
        ∙ ap (λ (q : PageRecord). Ok (with_lists q (extra_of plan) offsets byte_counts)) i.facts

    extras_are : length (extra_of plan) ≡ length p.extra
    extras_are = length-replicate plan.extra_count plan.first_extra ∙ i.extras

    tells : TellOfChunk p k (extra_of plan) offsets byte_counts
    tells = record {
      extras = extras_are;
      alpha = i.alpha;
      chunks = length-set (replicate count 0) k offset_is.0 ∙ length-replicate {A = ℕ} count 0;
      offset = offset_is.1.1;
      byte_count = byte_count_is.1.1;
    }

    read_is : (limits : Limits) (buf : List ℕ)
        → read_planned file plan limits k buf ≡ read_chunk_bytes file plan.order p limits k buf
    unfolding read_planned
    read_is limits buf =
        ap (λ (r : Result PageRecord TiffError). r
        >>= (λ page. read_chunk_bytes file plan.order page limits k buf)) page_is
        ∙ chunk_alone.bytes file plan.order p limits k buf (extra_of plan) offsets byte_counts i.page.sides i.page.sampled i.page.counted tells

  module _ (wide : length file < 2 ^ 64) (k : ℕ) where
    early_is : (limits : Limits) (len : ℕ)
        → planned_early file plan limits k len ≡ chunk_bytes_early p limits k len
    unfolding planned_early
    early_is limits len =
        ap (λ (r : Result PageRecord TiffError). r
        >>= (λ page. chunk_bytes_early page limits k len)) (page_is wide k)
        ∙ chunk_alone.early p limits k len (extra_of plan) (offsets wide k) (byte_counts wide k)
        (tells wide k)

    asked_is : (source : SourceRecord) → source.bytes ≡ file → ChunksReadable source p k (λ l. 1)
        → (page : PageRecord) → page_of_chunk source.bytes plan k ≡ Ok page
        → ChunksReadable source page k (λ l. 1)
    asked_is source same r page h =
        let both : Ok (with_lists p (extra_of plan) (offsets wide k) (byte_counts wide k))
        ≡ Ok page =
        sym (page_is wide k) ∙ ap (λ (bytes : List ℕ). page_of_chunk bytes plan k) (sym same)
        ∙ h in
        let one : with_lists p (extra_of plan) (offsets wide k) (byte_counts wide k) ≡ page = cc in
        subst (λ (q : PageRecord). ChunksReadable source q k (λ l. 1)) one
        ((chunk_alone.asked source p k (extra_of plan) (offsets wide k) (byte_counts wide k) (tells wide k)).1 r)

  page_there : length file < 2 ^ 64 → (k : ℕ)
      → (page : PageRecord) × ((page_of_chunk file plan k ≡ Ok page) × IsPageOfChunk p k page)
  page_there wide k =
      let page : PageRecord = with_lists p (extra_of plan) (offsets wide k) (byte_counts wide k) in
      let told : IsPageOfChunk p k page =
      record { extra = extra_of plan; offsets = offsets wide k; byte_counts = byte_counts wide k; same = refl; tells = tells wide k } in
      (page, (page_is wide k, told))

  layout_is : (k : ℕ) → planned_layout plan k ≡ image_chunk_buffer_layout p k
  unfolding planned_layout
  layout_is k =
      let none : List ℕ = one_known (length p.offsets) k 0 in
      ap (λ (r : Result ℕ TiffError). r >>= (λ count. image_chunk_buffer_layout (page_with plan (extra_of plan) (one_known count k 0) (one_known count k 0)) k)) count_is
      ∙ ap (λ (q : PageRecord). image_chunk_buffer_layout (with_lists q (extra_of plan) none none) k) i.facts
      ∙ chunk_alone.layout p k (extra_of plan) none none (length-replicate plan.extra_count plan.first_extra ∙ i.extras) i.alpha

pub plans_make_pages : PlansMakePages
plans_make_pages plan file opened p k wide i = page_there plan file opened p i wide k

pub plans_read_pages : PlansReadPages
plans_read_pages = record {
  bytes = λ plan file opened p limits k buf wide i. read_is plan file opened p i wide k limits buf;
  early = λ plan file opened p limits k len wide i. early_is plan file opened p i wide k limits len;
  asked =
      λ plan source opened p k wide i place r. record { place = place; chunk = λ page h. asked_is plan source.bytes opened p i wide k source refl r page h };
  layout = λ plan file opened p k i. layout_is plan file opened p i k;
}

-- what a call returns by the plan of a page, by the page
pub read_by_page : {X : Type 0} (view : X → List ℕ) (r : Result X TiffError) (plan : PagePlan)
    (file : List ℕ) (limits : Limits) (k : ℕ) (buf : List ℕ) (before after : ℕ)
    → length file < 2 ^ 64 → Answers view r (read_planned file plan limits k buf) before after
    → (opened : Limits) (p : PageRecord) → IsPlanOf plan file opened p
    → Answers view r (read_chunk_bytes file plan.order p limits k buf) before after
read_by_page view r plan file limits k buf before after wide h opened p i =
    subst (λ (given : Result (List ℕ) TiffError). Answers view r given before after)
    (plans_read_pages.bytes plan file opened p limits k buf wide i) h
