-- A decoder walks along the chain of a file, and counts the pages.
use Rattle.std.proofs.Common.{◌≡◌, ℕ, zero, suc, ◌+◌, ◌-◌, ◌<◌, ◌≤◌, List, length, Option, None, Some, true, false, Result, Ok, Err, refl, ap, sym, ◌∙◌, arith}
use Rattle.std.proofs.lemmas.Map.Steps.{length-le_from_distinct_below}
use Rattle.std.proofs.lemmas.Option.{slice_get_within}
use Rattle.std.specs.List.{slice_get}
use Rattle.tiff_base.specs.declared.error.TiffError.{TiffError}
use Rattle.tiff_base.specs.Answers.{◌>>=◌, AnswersWithoutSource}
use Rattle.tiff_base.specs.lemmas.Causes.{cause_along}
use Rattle.tiff_ifd.specs.lemmas.Chain.{apart_chain}
use Rattle.tiff_page.specs.PixelFault.{each_below}
use Rattle.tiff_decode.specs.Machine.{Decoding}
use Rattle.tiff_decode.specs.Opened.{OpensFirst}
use Rattle.tiff_decode.specs.Outcome.{decoder_of, chain_of, next_image, seek_to_image}
use Rattle.tiff_laws.specs.Pages.{IsAlong, GoesOn, WalkOpens, WalkGoesOn, WalkEnds}
use Rattle.tiff_ffi.specs.Calls.{decoder_at_page, page_count, plain_end}

-- the error of the page with this number
abbrev pub page_fault : Decoding → ℕ → Result (Unit {0}) TiffError
page_fault d page = (seek_to_image d page).answer

-- A decoder is at a directory of the chain, and `count` pages were entered up to it.
pub record Counting (start : Decoding) (count : ℕ) (d : Decoding) : Type 0 where
  pub number : ℕ
  pub counted : count ≡ suc number
  pub along : IsAlong start number d
  pub entered : each_below (page_fault start) (suc number) ≡ Ok tt

-- A chain has no more offsets than the file has bytes.
chain_short : (d : Decoding) → length (chain_of d).offsets ≤ length d.bytes
chain_short d =
    let apart = apart_chain d.kind d.order d.bytes d.first in
    length-le_from_distinct_below (chain_of d).offsets (length d.bytes) apart.differ apart.below

-- ---- the first error

each_entered : (fault : ℕ → Result (Unit {0}) TiffError) (n : ℕ) → each_below fault n ≡ Ok tt
    → fault n ≡ Ok tt → each_below fault (suc n) ≡ Ok tt
each_entered fault n h f = ap (λ (r : Result (Unit {0}) TiffError). r >>= λ _. fault n) h ∙ f

each_until : (fault : ℕ → Result (Unit {0}) TiffError) (n : ℕ) (e : TiffError)
    → each_below fault n ≡ Ok tt → fault n ≡ Err e → each_below fault (suc n) ≡ Err e
each_until fault n e h f = ap (λ (r : Result (Unit {0}) TiffError). r >>= λ _. fault n) h ∙ f

-- The first error of some pages is the first error of more pages.
each_past : (fault : ℕ → Result (Unit {0}) TiffError) (n : ℕ) (e : TiffError)
    → each_below fault n ≡ Err e → (k m : ℕ) → m ≡ k + n → each_below fault m ≡ Err e
each_past fault n e h zero m s = (let t : m ≡ n = omega arith in ap (each_below fault) t ∙ h)
each_past fault n e h (suc k) zero s = absurd (omega arith)
each_past fault n e h (suc k) (suc m) s =
    let t : m ≡ k + n = omega arith in
    ap (λ (r : Result (Unit {0}) TiffError). r >>= λ _. fault m) (each_past fault n e h k m t)

-- how many pages the file of an open decoder has, or the first error
abbrev counted_by : Decoding → Result (Unit {0}) TiffError → Result (Unit {0}) TiffError
    → Result ℕ TiffError
counted_by d pages end = pages >>= λ _. (end >>= λ _. Ok (length (chain_of d).offsets))

abbrev pages_of : Decoding → Result (Unit {0}) TiffError
pages_of d = each_below (page_fault d) (length (chain_of d).offsets)

count_of : (d : Decoding) (pages end : Result (Unit {0}) TiffError) → decoder_of d.bytes 0 ≡ Ok d
    → pages_of d ≡ pages → plain_end (chain_of d).end ≡ end
    → page_count d.bytes ≡ counted_by d pages end
count_of d pages end h p e =
    ap (λ (r : Result Decoding TiffError). r >>= λ x. counted_by x (pages_of x) (plain_end (chain_of x).end)) h
    ∙ ap (λ (r : Result (Unit {0}) TiffError). counted_by d r (plain_end (chain_of d).end)) p
    ∙ ap (counted_by d pages) e

-- ---- a decoder that was opened

-- A decoder opened at the first page is at page 0.
pub at_first_page : OpensFirst → (file : List ℕ) (page : ℕ) → page ≡ 0
    → decoder_of file 0 ≡ decoder_at_page file page
at_first_page opens file page z = opens file 0 ∙ ap (decoder_at_page file) (sym z)

module _ (opens : WalkOpens) where
  -- A decoder has the bytes that it was opened on.
  pub bytes_opened : (file : List ℕ) (d : Decoding) → decoder_of file 0 ≡ Ok d → d.bytes ≡ file
  bytes_opened file d h = (opens file 0 d h).bytes

  pub opened_again : (file : List ℕ) (d : Decoding) → decoder_of file 0 ≡ Ok d
      → decoder_of d.bytes 0 ≡ Ok d
  opened_again file d h = ap (λ (b : List ℕ). decoder_of b 0) (bytes_opened file d h) ∙ h

  -- A decoder that was opened is at the first page, which was entered.
  pub counts_first : (d : Decoding) → decoder_of d.bytes 0 ≡ Ok d → Counting d 1 d
  counts_first d h =
      let a = (opens d.bytes 0 d h).arrives in
      record { number = zero; counted = refl; along = a.along; entered = each_entered (page_fault d) zero refl a.sought }

-- ---- one page after another

went : (start old new : Decoding) (count : ℕ) (c : Counting start count old) (next : Option ℕ)
    → GoesOn start c.number next old (Ok tt) new → Counting start (count + 1) new
went start old new count c None w = (let a = w.1 in absurd (cc))
went start old new count c (Some offset) w = record {
  number = suc c.number;
  counted = omega (arith, c.counted);
  along = w.along;
  entered = each_entered (page_fault start) (suc c.number) c.entered w.sought;
}

-- The next page was entered.
pub counts_next : WalkGoesOn → (start old new : Decoding) (count : ℕ) → Counting start count old
    → old.state.more ≡ true → (next_image old).answer ≡ Ok tt
    → new ≡ record old { state = (next_image old).next } → Counting start (count + 1) new
counts_next goes_on start old new count c more a m =
    went start old new count c (slice_get (chain_of start).offsets (suc c.number))
    (goes_on start old new c.number (Ok tt) c.along more (record { answer = a; at = m }))

-- There are no more pages than bytes.
pub few_bytes : (start d : Decoding) (count : ℕ) → Counting start count d
    → count ≤ length start.bytes
few_bytes start d count c =
    let within =
    slice_get_within (chain_of start).offsets c.number c.along.offset c.along.is_offset in
    let short = chain_short start in
    omega (arith, c.counted)

-- With one more page entered, fewer offsets are left.
pub fewer_left : (start old new : Decoding) (count : ℕ) → Counting start count old
    → Counting start (count + 1) new
    → length (chain_of start).offsets - (count + 1) < length (chain_of start).offsets - count
fewer_left start old new count c d =
    let within =
    slice_get_within (chain_of start).offsets d.number d.along.offset d.along.is_offset in
    omega (arith, c.counted, d.counted)

-- ---- the count

-- Behind the last page, the count is the page count.
pub all_pages : WalkEnds → (start d : Decoding) (count : ℕ) → decoder_of start.bytes 0 ≡ Ok start
    → Counting start count d → d.state.more ≡ false → page_count start.bytes ≡ Ok count
all_pages ends start d count h c more =
    let end = ends start d c.number c.along more in
    count_of start (Ok tt) (Ok tt) h (ap (each_below (page_fault start)) end.last
    ∙ c.entered) (ap plain_end end.is_end)
    ∙ ap (λ (n : ℕ). Ok n) (end.last ∙ sym c.counted)

-- The next page has an error, or the chain ends by one.
stopped : (start old new : Decoding) (count : ℕ) (e : TiffError) (c : Counting start count old)
    (next : Option ℕ) → decoder_of start.bytes 0 ≡ Ok start
    → slice_get (chain_of start).offsets (suc c.number) ≡ next
    → GoesOn start c.number next old (Err e) new → page_count start.bytes ≡ Err e
stopped start old new count e c (Some offset) h s w =
    let n = length (chain_of start).offsets in
    let within = slice_get_within (chain_of start).offsets (suc c.number) offset s in
    let until = each_until (page_fault start) (suc c.number) e c.entered w.sought in
    let left : n ≡ n - suc (suc c.number) + suc (suc c.number) = omega arith in
    count_of start (Err e) (plain_end (chain_of start).end) h (each_past (page_fault start) (suc (suc c.number)) e until (n - suc (suc c.number)) n left) refl
stopped start old new count e c None h s w =
    let is : e ≡ w.0 = (let a = w.1 in cc) in
    count_of start (Ok tt) (Err w.0) h (ap (each_below (page_fault start)) w.2.last
    ∙ c.entered) (ap plain_end w.2.is_end)
    ∙ ap (λ (x : TiffError). Err x) (sym is)

refused : WalkGoesOn → (start old : Decoding) (count : ℕ) (e : TiffError)
    → decoder_of start.bytes 0 ≡ Ok start → Counting start count old → old.state.more ≡ true
    → (next_image old).answer ≡ Err e → page_count start.bytes ≡ Err e
refused goes_on start old count e h c more a =
    let new : Decoding = record old { state = (next_image old).next } in
    stopped start old new count e c (slice_get (chain_of start).offsets (suc c.number)) h refl
    (goes_on start old new c.number (Err e) c.along more (record { answer = a; at = refl }))

-- An error of going on is the error of the page count.
pub refused_next : WalkGoesOn → (start old : Decoding) (count : ℕ) (e : TiffError)
    → decoder_of start.bytes 0 ≡ Ok start → Counting start count old → old.state.more ≡ true
    → AnswersWithoutSource {X = Unit {0}} (λ x. x) (Err e) (next_image old).answer
    → AnswersWithoutSource {X = ℕ} (λ n. n) (Err e) (page_count start.bytes)
refused_next goes_on start old count e h c more a =
    cause_along {wanting = Unit {0}} {failed = ⊥} {wanting' = Unit {0}} {failed' = ⊥}
    {given = (next_image old).answer ≡ Err e} {given' = page_count start.bytes ≡ Err e} e
    (λ w. w) (λ f. f) (refused goes_on start old count e h c more) a
