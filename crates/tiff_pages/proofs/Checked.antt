-- Pages that are read whole.
use Rattle.std.proofs.Common.{◌≡◌, ℕ, suc, ◌+◌, ◌<◌, List, [], ◌∷◌, ◌++◌, length, map, take, Option, None, Some, Result, Ok, Err, refl, ap, sym, ◌∙◌, subst, arith}
use Rattle.std.proofs.lemmas.List.{map-append}
use Rattle.std.specs.Prelude.{unwrap_or}
use Rattle.std.specs.List.{slice_get}
use Rattle.tiff_base.specs.declared.error.TiffError.{TiffError}
use Rattle.tiff_base.specs.declared.tags.IfdPointer.{IfdPointer}
use Rattle.tiff_base.specs.Answers.{◌>>=◌, Answers}
use Rattle.tiff_base.specs.Directory.{directory_at}
use Rattle.tiff_base.specs.Field.{DirectoryRecord}
use Rattle.tiff_page.specs.Page.{PageRecord}
use Rattle.tiff_decode.specs.Machine.{Decoding, Outcome, Follows, GivesOutcome}
use Rattle.tiff_decode.specs.Outcome.{chain_of, page_in, seek_to_image, show_directory, show_outcome, with_page}
use Rattle.tiff_laws.specs.Pages.{Arrives, PageAnswers, SameFile, WalkSeeks, page_at}
use Rattle.tiff_laws.specs.lemmas.Listed.{take_next}
use Rattle.tiff_pages.specs.declared.pages.PageList.{PageList}
use Rattle.tiff_pages.specs.Pages.{IsOfFile, Pages, pages_in, pages_of, state_along, times_to_end}
use Rattle.tiff_pages.specs.declared.check.ImageSum.{ImageSum}
use Rattle.tiff_pages.specs.declared.check.PageCheck.{PageCheck}
use Rattle.tiff_pages.specs.Check.{Checks, IsCheckOf, ReadsPage, check_at, checks_of, image_sum}
use Rattle.tiff_pages.proofs.Read.{IsRead, shows_page}

abbrev Answer : Type 0
Answer = Result (Unit {0}) TiffError

-- ---- one page

of_file : (o : Outcome (Unit {0})) (r : Answer) (old new : Decoding) → IsOfFile r
    → Follows (λ x. x) o r old new → GivesOutcome r o old new
of_file o (Ok u) old new k h = h
of_file o (Err e) old new k h = h.other k

-- The decoder is at the page with this number.
pub came_to : WalkSeeks → (d new : Decoding) (number : ℕ) (answer entered : Answer)
    → number < length (chain_of d).offsets → (entered ≡ answer) × IsOfFile answer
    → Follows (λ x. x) (seek_to_image d number) answer d new
    → Arrives d number entered new × (new.failures ≡ d.failures)
came_to seeks d new number answer entered some told h =
    let gives = of_file (seek_to_image d number) answer d new told.1 h in
    let P : Answer → Type 0 = λ x. Arrives d number x new in (
      subst P (sym told.0) (seeks d d new number answer (record { bytes = refl; kind = refl; order = refl; first = refl; limits = refl }) some gives),
      ap (λ (x : Decoding). x.failures) gives.at,
    )

-- the sum of a page that was entered, or the error of the call that entered it
abbrev pub sum_told : Answer → Decoding → Result ImageSum TiffError
sum_told (Ok u) d = image_sum d d.state.page
sum_told (Err e) d = Err e

sum_of_file : (a b : Decoding) (page : PageRecord) → SameFile a b
    → image_sum b page ≡ image_sum a page
sum_of_file a b page s =
    λ i. image_sum (record a { bytes = s.bytes i; order = s.order i; state = record a.state { limits = s.limits i } }) page

sum_by : (d new : Decoding) (offset : ℕ) (answer : Answer) → SameFile d new
    → PageAnswers d offset answer new → sum_told answer new ≡ (page_at d offset >>= image_sum d)
sum_by d new offset (Ok u) s p =
    sum_of_file d new new.state.page s
    ∙ sym (ap (λ (r : Result DirectoryRecord TiffError). r
    >>= page_in d.kind d.order d.bytes d.state.limits >>= image_sum d) p.0
    ∙ ap (λ (r : Result PageRecord TiffError). r >>= image_sum d) p.1)
sum_by d new offset (Err e) s p =
    sym (ap (λ (r : Result PageRecord TiffError). r >>= image_sum d) p)

place_is : (o : Option IfdPointer) (p q : IfdPointer) → o ≡ Some p → o ≡ Some q → p ≡ q
place_is o p q h k = ap (λ (x : Option IfdPointer). unwrap_or x p) (sym h ∙ k)

-- The result is the check of the page.
pub check_made : (d new : Decoding) (number : ℕ) (answer : Answer) (place : IfdPointer)
    (image : Result ImageSum TiffError) → Arrives d number answer new
    → new.state.pointer ≡ Some place → image ≡ sum_told answer new
    → IsCheckOf d number (record { place = place; image = image })
check_made d new number answer place image a pointer is =
    let at =
    place_is new.state.pointer place (record { 0 = a.along.offset }) pointer a.along.pointer in
    let sum = is ∙ sum_by d new a.along.offset answer a.along.same a.page in
    (a.along.offset, a.along.is_offset, λ i. record { place = at i; image = sum i })

-- A result that comes from the file is the given one.
given_is : {X : Type 0} (r given : Result X TiffError) (m n : ℕ) → IsOfFile r
    → Answers (λ x. x) r given m n → given ≡ r
given_is (Ok x) given m n k h = h
given_is (Err e) given m n k h = h.other k

-- The image of a page was read.
pub image_told : (new mid last : Decoding) (u : Unit {0}) (entered : Answer)
    (r image : Result ImageSum TiffError) → mid ≡ new → entered ≡ Ok u
    → ReadsPage (λ s. s) (image_sum mid mid.state.page) r mid last → (image ≡ r) × IsOfFile r
    → image ≡ sum_told entered new
image_told new mid last u entered r image s e h told =
    told.0 ∙ sym (given_is r (image_sum mid mid.state.page) mid.failures last.failures told.1 h.answer)
    ∙ ap (λ (d : Decoding). image_sum d d.state.page) s
    ∙ sym (ap (λ (a : Answer). sum_told a new) e)

-- The page has an error.
pub fault_told : (new : Decoding) (e : TiffError) (entered : Answer)
    (image : Result ImageSum TiffError) → entered ≡ Err e → image ≡ Err e
    → image ≡ sum_told entered new
fault_told new e entered image h k = k ∙ sym (ap (λ (a : Answer). sum_told a new) h)

-- The file is the same if the decoder is the same.
pub same_then : (d new last : Decoding) (number : ℕ) (entered : Answer)
    → Arrives d number entered new × (new.failures ≡ d.failures) → last ≡ new
    → SameFile d last × (last.failures ≡ d.failures)
same_then d new last number entered a e =
    let P : Decoding → Type 0 = λ x. SameFile d x × (x.failures ≡ d.failures) in
    subst P (sym e) (a.0.along.same, a.1)

-- ---- a page that is shown

-- The page at an offset is shown, of the same file.
abbrev ShowsPage : Decoding → Decoding → ℕ → Type 0
ShowsPage old new offset = (page_at old offset ≡ Ok new.state.page) × SameFile old new

abbrev page_result : PageRecord → Result PageRecord TiffError
page_result page = Ok page

is_shown : (old new : Decoding) (offset : ℕ) → IsRead old new offset → ShowsPage old new offset
is_shown old new offset s = (
  ap (λ (x : Result DirectoryRecord TiffError). x
      >>= page_in old.kind old.order old.bytes old.state.limits) s.found ∙ s.shown
      ∙ ap page_result (sym (ap (λ (d : Decoding). d.state.page) s.left)),
  record {
    bytes = ap (λ (d : Decoding). d.bytes) s.left;
    kind = ap (λ (d : Decoding). d.kind) s.left;
    order = ap (λ (d : Decoding). d.order) s.left;
    first = ap (λ (d : Decoding). d.first) s.left;
    limits = ap (λ (d : Decoding). d.state.limits) s.left;
  },
)

-- The image of a page that is shown was read.
pub image_shown : (old new last : Decoding) (place : IfdPointer) (u : Unit {0})
    (answer shown : Answer) (r image : Result ImageSum TiffError)
    → (shown ≡ answer) × IsOfFile answer → shown ≡ Ok u
    → Follows (λ x. x) (show_directory old place) answer old new
    → ReadsPage (λ s. s) (image_sum new new.state.page) r new last → (image ≡ r) × IsOfFile r
    → record { place = place; image = image } ≡ check_at old place.0
image_shown old new last place u answer shown r image k t h reads told =
    let P : Answer → Type 0 = λ x. Follows (λ y. y) (show_directory old place) x old new in
    let s = is_shown old new place.0 (shows_page place u old new (subst P (sym k.0 ∙ t) h)) in
    let is : (page_at old place.0 >>= image_sum old) ≡ image =
    ap (λ (p : Result PageRecord TiffError). p >>= image_sum old) s.0
    ∙ sym (sum_of_file old new new.state.page s.1)
    ∙ given_is r (image_sum new new.state.page) new.failures last.failures told.1 reads.answer
    ∙ sym told.0 in
    λ i. record { place = place; image = sym is i }

abbrev the_error : TiffError → Answer
the_error e = Err e

abbrev page_error : TiffError → Result PageRecord TiffError
page_error e = Err e

same_fault : (f e : TiffError) → the_error f ≡ the_error e → f ≡ e
same_fault f e h = cc

fault_page : (old : Decoding) (offset : ℕ) (e : TiffError) (directory : DirectoryRecord)
    (page : Result PageRecord TiffError)
    → directory_at old.kind old.order old.bytes offset ≡ Ok directory
    → page_in old.kind old.order old.bytes old.state.limits directory ≡ page
    → (with_page old.state directory page).answer ≡ Err e
    → page_at old offset ≡ Err e
fault_page old offset e directory (Ok page) r q a = absurd (cc)
fault_page old offset e directory (Err f) r q a =
    ap (λ (x : Result DirectoryRecord TiffError). x
    >>= page_in old.kind old.order old.bytes old.state.limits) r ∙ q
    ∙ ap page_error (same_fault f e a)

fault_directory : (old : Decoding) (offset : ℕ) (e : TiffError) (read : Result DirectoryRecord TiffError)
    → directory_at old.kind old.order old.bytes offset ≡ read
    → (show_outcome old read).answer ≡ Err e → page_at old offset ≡ Err e
fault_directory old offset e (Err f) r a =
    ap (λ (x : Result DirectoryRecord TiffError). x
    >>= page_in old.kind old.order old.bytes old.state.limits) r
    ∙ ap page_error (same_fault f e a)
fault_directory old offset e (Ok directory) r a =
    fault_page old offset e directory (page_in old.kind old.order old.bytes old.state.limits directory) r refl a

fault_here : (place : IfdPointer) (e : TiffError) (old new : Decoding)
    → GivesOutcome (Err e) (show_directory old place) old new → page_at old place.0 ≡ Err e
unfolding show_directory
fault_here place e old new h =
    fault_directory old place.0 e (directory_at old.kind old.order old.bytes place.0) refl h.answer

-- The page at an offset has an error.
pub fault_shown : (old new : Decoding) (place : IfdPointer) (e : TiffError) (answer shown : Answer)
    (image : Result ImageSum TiffError)
    → (shown ≡ answer) × IsOfFile answer → shown ≡ Err e
    → Follows (λ x. x) (show_directory old place) answer old new → image ≡ Err e
    → record { place = place; image = image } ≡ check_at old place.0
fault_shown old new place e answer shown image k t h is =
    let P : Answer → Type 0 = λ x. GivesOutcome x (show_directory old place) old new in
    let g =
    fault_here place e old new (subst P (sym k.0
    ∙ t) (of_file (show_directory old place) answer old new k.1 h)) in
    let same : image ≡ (page_at old place.0 >>= image_sum old) =
    is ∙ sym (ap (λ (p : Result PageRecord TiffError). p >>= image_sum old) g) in
    λ i. record { place = place; image = same i }

-- ---- one after another

-- So many pages were checked.
pub record ChecksAlong (start d : Decoding) (count : ℕ) (checks : List PageCheck) : Type 0 where
  pub same : SameFile start d
  pub failures : d.failures ≡ start.failures
  pub checked : checks ≡ map (check_at start) (take count (chain_of start).offsets)

same_chain : (a b : Decoding) → SameFile a b → chain_of b ≡ chain_of a
same_chain a b s = (let k = s.kind in let o = s.order in let y = s.bytes in let f = s.first in cc)

same_check : (a b : Decoding) (offset : ℕ) → SameFile a b → check_at b offset ≡ check_at a offset
same_check a b offset s =
    λ i. check_at (record a { bytes = s.bytes i; kind = s.kind i; order = s.order i; state = record a.state { limits = s.limits i } }) offset

same_checks : (a b : Decoding) (offsets : List ℕ) → SameFile a b
    → map (check_at b) offsets ≡ map (check_at a) offsets
same_checks a b [] s = refl
same_checks a b (o ∷ os) s = λ i. same_check a b o s i ∷ same_checks a b os s i

same_after : (a b c : Decoding) → SameFile a b → SameFile b c → SameFile a c
same_after a b c s t =
    record { bytes = t.bytes ∙ s.bytes; kind = t.kind ∙ s.kind; order = t.order ∙ s.order; first = t.first ∙ s.first; limits = t.limits ∙ s.limits }

pub none_checked : (d : Decoding) (checks : List PageCheck) → checks ≡ [] → ChecksAlong d d 0 checks
none_checked d checks h = record {
  same = record { bytes = refl; kind = refl; order = refl; first = refl; limits = refl };
  failures = refl;
  checked = h;
}

-- There is a page with this number.
pub some_left : (start d : Decoding) (count : ℕ) (checks : List PageCheck)
    → ChecksAlong start d count checks → count < length (chain_of start).offsets
    → count < length (chain_of d).offsets
some_left start d count checks c l =
    subst (λ (n : ℕ). count < n) (ap (λ x. length x.offsets) (sym (same_chain start d c.same))) l

-- One more page was checked.
pub one_checked : (start old new : Decoding) (count : ℕ) (check : PageCheck)
    (before checks : List PageCheck) → ChecksAlong start old count before
    → IsCheckOf old count check
    → SameFile old new × (new.failures ≡ old.failures) → checks ≡ before ++ check ∷ []
    → ChecksAlong start new (count + 1) checks
one_checked start old new count check before checks c is same e =
    let n : count + 1 ≡ suc count = omega arith in
    let there = sym (ap (λ x. slice_get x.offsets count) (same_chain start old c.same)) ∙ is.1 in
    let one = is.2 ∙ same_check start old is.0 c.same in
    record {
      same = same_after start old new c.same same.0;
      failures = same.1 ∙ c.failures;
      checked =
          e ∙ ap (λ (xs : List PageCheck). xs ++ check ∷ []) c.checked
          ∙ ap (λ (x : PageCheck). map (check_at start) (take count (chain_of start).offsets) ++ x
          ∷ []) one
          ∙ sym (map-append (check_at start) (take count (chain_of start).offsets) (is.0 ∷ []))
          ∙ ap (map (check_at start)) (sym (ap (λ (k : ℕ). take k (chain_of start).offsets) n
          ∙ take_next (chain_of start).offsets count is.0 there));
    }

abbrev answered : Pages → Result Pages TiffError
answered pages = Ok pages

abbrev checks_answered : Checks → Result Checks TiffError
checks_answered checks = Ok checks

-- how the chain ends, by a list of pages
abbrev end_told : Result Pages TiffError → Option TiffError
end_told (Ok pages) = pages.end
end_told (Err e) = None

-- All pages of the file that were listed were checked.
pub checks_all : (old mid : Decoding) (listed : PageList) (checks : List PageCheck)
    → Ok (pages_of old) ≡ answered (pages_in listed)
    → mid ≡ record old { state = state_along old (times_to_end old) }
    → mid.state.limits ≡ old.state.limits
    → checks ≡ map (check_at mid) (chain_of mid).offsets
    → Ok (checks_of old) ≡ checks_answered (record { items = checks; end = listed.end })
checks_all old mid listed checks told at limits all =
    let same : SameFile old mid = record {
      bytes = ap (λ (d : Decoding). d.bytes) at;
      kind = ap (λ (d : Decoding). d.kind) at;
      order = ap (λ (d : Decoding). d.order) at;
      first = ap (λ (d : Decoding). d.first) at;
      limits = limits;
    } in
    let here =
    all ∙ ap (λ x. map (check_at mid) x.offsets) (same_chain old mid same)
    ∙ same_checks old mid (chain_of old).offsets same in
    let end : (chain_of old).end ≡ listed.end = ap end_told told in
    λ i. Ok (record { items = sym here i; end = end i })
