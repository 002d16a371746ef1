-- The pages of a file are listed along its chain.
use Rattle.std.proofs.Common.{◌≡◌, ℕ, suc, ◌-◌, ◌<◌, ◌≤◌, List, [], ◌∷◌, ◌++◌, length, Option, None, Some, IsSome, true, Result, Ok, Err, OnOk, inl, inr, refl, ap, sym, ◌∙◌, subst, arith}
use Rattle.std.proofs.lemmas.Option.{slice_get_within}
use Rattle.std.specs.Prelude.{is_some, unwrap_or}
use Rattle.std.specs.List.{slice_get}
use Rattle.tiff_base.specs.declared.error.TiffError.{TiffError}
use Rattle.tiff_base.specs.declared.error.TiffError.TheVariants.{IoError, OutOfMemory}
use Rattle.tiff_base.specs.declared.io.IoKind.TheVariants.{Device}
use Rattle.tiff_base.specs.declared.tags.IfdPointer.{IfdPointer}
use Rattle.tiff_base.specs.Answers.{◌>>=◌, IsCause}
use Rattle.tiff_base.specs.Field.{DirectoryRecord}
use Rattle.tiff_page.specs.Page.{PageRecord}
use Rattle.tiff_decode.specs.Machine.{State, Decoding, Outcome, FollowsBut, Follows, GivesOutcome, keeps_state}
use Rattle.tiff_decode.specs.Outcome.{chain_of, next_image, page_in, seek_to_image}
use Rattle.tiff_laws.specs.Pages.{IsAlong, PageAnswers, Arrives, EndsBehind, GoesOn, ListedAlong, WalkSeeks, WalkGoesOn, WalkMoves}
use Rattle.tiff_laws.specs.lemmas.Listed.{listed_first, listed_next, listed_fewer, listed_all}
use Rattle.tiff_pages.specs.declared.pages.PageItem.{PageItem}
use Rattle.tiff_pages.specs.Pages.{HasItsPage, IsOfFile, WasOnItsWay, facts_at, facts_of, facts_told, item_at, pages_of, state_along, times_on, times_to_end}

abbrev pub Answer : Type 0
Answer = Result (Unit {0}) TiffError

-- Pages were listed up to the one at which the decoder is, to which it came by a seek and by going
-- on.
pub record ListsAlong (start d : Decoding) (items : List PageItem) : Type 0 where
  pub listed : ListedAlong (item_at start) start d items
  pub state : d ≡ record start { state = state_along start listed.number }

-- ---- results

-- A result that comes from the file is the given one.
pub of_file : (wanting : Type 0) (o : Outcome (Unit {0})) (r : Answer) (old new : Decoding)
    → IsOfFile r → FollowsBut wanting (λ x. x) o r old new → GivesOutcome r o old new
of_file wanting o (Ok u) old new k h = h
of_file wanting o (Err e) old new k h = h.other k

-- Any other result leaves the decoder where it was.
kept_by : (wanting : Type 0) (o : Outcome (Unit {0})) (e : TiffError) (old new : Decoding)
    → keeps_state e ≡ true → FollowsBut {X = Unit {0}} wanting (λ x. x) o (Err e) old new
    → new.state ≡ old.state
kept_by wanting o OutOfMemory old new k h = ap (λ (d : Decoding). d.state) (h.memory refl).1
kept_by wanting o (IoError Device) old new k h = ap (λ (d : Decoding). d.state) (h.device refl).at.stands
kept_by wanting o e old new k h = absurd (cc)

pub kept_state : (wanting : Type 0) (o : Outcome (Unit {0})) (r : Answer) (e : TiffError)
    (old new : Decoding) → (r ≡ Err e) × (keeps_state e ≡ true)
    → FollowsBut wanting (λ x. x) o r old new → new.state ≡ old.state
kept_state wanting o r e old new k h =
    let P : Answer → Type 0 = λ x. FollowsBut wanting (λ y. y) o x old new in
    kept_by wanting o e old new k.1 (subst P k.0 h)

-- Its cause is then that memory is out or that a read failed.
pub kept_cause : (wanting : Type 0) (o : Outcome (Unit {0})) (r : Answer) (e : TiffError)
    (old new : Decoding) → (r ≡ Err e) × (keeps_state e ≡ true)
    → FollowsBut wanting (λ x. x) o r old new
    → IsCause (Unit {0}) (old.failures < new.failures) e ⊥
kept_cause wanting o r e old new k h =
    let P : Answer → Type 0 = λ x. FollowsBut wanting (λ y. y) o x old new in
    let c = subst P k.0 h in
    record {
      memory = λ is. tt;
      device = λ is. (c.device is).grew;
      other = λ isnt. absurd (let a = k.1 in cc);
    }

-- ---- where the decoder is

-- The decoder has a pointer.
pub some_pointer : (start d : Decoding) (n : ℕ) (answer : Answer) → Arrives start n answer d
    → IsSome d.state.pointer
some_pointer start d n answer a = ap is_some a.along.pointer

-- The page of a decoder is that of its directory.
pub has_page : (start d : Decoding) (n : ℕ) (answer : Answer) → Arrives start n answer d
    → OnOk answer (HasItsPage d)
has_page start d n (Ok u) a =
    let s = a.along.same in
    let p = a.page.1 in
    (let k = s.kind in let o = s.order in let y = s.bytes in let l = s.limits in cc)
has_page start d n (Err e) a = tt

within_end : (n len : ℕ) (end : Option TiffError) → n < len → n ≤ times_on len end
within_end n len None h = omega (arith, h)
within_end n len (Some e) h = omega (arith, h)

-- The decoder is on its way along the chain.
pub on_its_way : (start d : Decoding) (n : ℕ) (answer : Answer) (state : State) → IsAlong start n d
    → state ≡ state_along start n → WasOnItsWay start state
on_its_way start d n answer state a h =
    let within = slice_get_within (chain_of start).offsets n a.offset a.is_offset in
    inr (inl (n, within_end n (length (chain_of start).offsets) (chain_of start).end within, h))

-- ---- an item

facts_by : (start d : Decoding) (offset : ℕ) (answer : Answer) → PageAnswers start offset answer d
    → facts_told answer d.state.page ≡ facts_at start offset
facts_by start d offset (Ok u) p =
    sym (ap (λ (r : Result DirectoryRecord TiffError). r
    >>= page_in start.kind start.order start.bytes start.state.limits >>= λ page. Ok (facts_of page)) p.0
    ∙ ap (λ (r : Result PageRecord TiffError). r >>= λ page. Ok (facts_of page)) p.1)
facts_by start d offset (Err e) p =
    sym (ap (λ (r : Result PageRecord TiffError). r >>= λ page. Ok (facts_of page)) p)

place_is : (o : Option IfdPointer) (p q : IfdPointer) → o ≡ Some p → o ≡ Some q → p ≡ q
place_is o p q h k = ap (λ (x : Option IfdPointer). unwrap_or x p) (sym h ∙ k)

-- What was made of a page is its item.
item_is : (start d : Decoding) (n : ℕ) (answer : Answer) (a : Arrives start n answer d)
    (item : PageItem) → d.state.pointer ≡ Some item.place
    → item.page ≡ facts_told answer d.state.page → item ≡ item_at start a.along.offset
item_is start d n answer a item place page =
    let at : item.place ≡ record { 0 = a.along.offset } =
    place_is d.state.pointer item.place (record { 0 = a.along.offset }) place a.along.pointer in
    let facts = page ∙ facts_by start d a.along.offset answer a.page in
    λ i. record { place = at i; page = facts i }

appended : (start d : Decoding) (n : ℕ) (answer : Answer) (a : Arrives start n answer d)
    (item : PageItem) (before items : List PageItem) → d.state.pointer ≡ Some item.place
    → item.page ≡ facts_told answer d.state.page → items ≡ before ++ item ∷ []
    → items ≡ before ++ item_at start a.along.offset ∷ []
appended start d n answer a item before items place page e =
    e ∙ ap (λ (x : PageItem). before ++ x ∷ []) (item_is start d n answer a item place page)

-- ---- the first page

-- A decoder sought the first page.
pub sought_first : WalkSeeks → (start new : Decoding) (answer entered : Answer)
    → 0 < length (chain_of start).offsets → (entered ≡ answer) × IsOfFile answer
    → Follows (λ x. x) (seek_to_image start 0) answer start new
    → Arrives start 0 entered new × (new ≡ record start { state = state_along start 0 })
sought_first seeks start new answer entered some told h =
    let gives = of_file (Unit {0}) (seek_to_image start 0) answer start new told.1 h in
    let P : Answer → Type 0 = λ x. Arrives start 0 x new in
    (subst P (sym told.0) (seeks start start new 0 answer (record { bytes = refl; kind = refl; order = refl; first = refl; limits = refl }) some gives), gives.at)

-- The first page was listed.
pub lists_first : (start mid new : Decoding) (entered : Answer) (item : PageItem) (none items : List PageItem)
    → Arrives start 0 entered mid × (mid ≡ record start { state = state_along start 0 }) → new ≡ mid
    → mid.state.pointer ≡ Some item.place
    → item.page ≡ facts_told entered mid.state.page → none ≡ [] → items ≡ none ++ item ∷ []
    → ListsAlong start new items
lists_first start mid new entered item none items a s place page n e =
    let P : Decoding → Type 0 = λ x. ListsAlong start x items in
    subst P (sym s) (record {
      listed =
          listed_first (item_at start) start mid a.0.along none items n
          (appended start mid 0 entered a.0 item none items place page e);
      state = a.1;
    })

-- ---- the next page

-- A decoder with more pages went on, and the result came from the file.
pub record WentOn (start old : Decoding) (items : List PageItem) (l : ListsAlong start old items)
    (entered : Answer) (new : Decoding) : Type 0 where
  pub went : GoesOn start l.listed.number (slice_get (chain_of start).offsets (suc l.listed.number)) old entered new
  pub state : new ≡ record start { state = state_along start (suc l.listed.number) }

pub went_on : WalkGoesOn → (start old new : Decoding) (items : List PageItem)
    (l : ListsAlong start old items) (answer entered : Answer) → old.state.more ≡ true
    → (entered ≡ answer) × IsOfFile answer
    → FollowsBut (old.state.more ≡ true) (λ x. x) (next_image old) answer old new
    → WentOn start old items l entered new
went_on goes_on start old new items l answer entered more told h =
    let gives = of_file (old.state.more ≡ true) (next_image old) answer old new told.1 h in
    let n = l.listed.number in
    let P : Answer → Type 0 =
    λ x. GoesOn start n (slice_get (chain_of start).offsets (suc n)) old x new in
    let on : Decoding → Decoding = λ d. record d { state = (next_image d).next } in
    record {
      went = subst P (sym told.0) (goes_on start old new n answer l.listed.along more gives);
      state = gives.at ∙ ap on l.state;
    }

still_some : (start old new : Decoding) (n : ℕ) (entered : Answer) (next : Option ℕ)
    → IsAlong start n old → GoesOn start n next old entered new → IsSome new.state.pointer
still_some start old new n entered (Some p) a w = some_pointer start new (suc n) entered w
still_some start old new n entered None a w =
    ap is_some (ap (λ (d : Decoding). d.state.pointer) w.3 ∙ a.pointer)

-- A decoder that went on has a pointer.
pub some_after : (start old new : Decoding) (items : List PageItem) (l : ListsAlong start old items)
    (entered : Answer) → WentOn start old items l entered new → IsSome new.state.pointer
some_after start old new items l entered w =
    still_some start old new l.listed.number entered (slice_get (chain_of start).offsets (suc l.listed.number)) l.listed.along w.went

-- ---- whether it moved

abbrev Same : IfdPointer → IfdPointer → Type 0
Same place here = place.0 ≡ here.0

same_pointer : (old new : Decoding) (here place : IfdPointer) → old.state.pointer ≡ Some here
    → new.state.pointer ≡ Some place → Same place here → new.state.pointer ≡ old.state.pointer
same_pointer old new here place h p s =
    let e : place ≡ here = λ i. record { 0 = s i } in
    p ∙ ap (λ (x : IfdPointer). Some x) e ∙ sym h

no_loop : (n : ℕ) → suc n ≡ n → ⊥
no_loop n h = omega (arith, h)

ended_by : (start old new : Decoding) (n : ℕ) (entered : Answer) (next : Option ℕ) → WalkMoves
    → IsAlong start n old → GoesOn start n next old entered new
    → new.state.pointer ≡ old.state.pointer
    → (e : TiffError) × (entered ≡ Err e) × EndsBehind start n (Some e)
ended_by start old new n entered (Some p) moves a w s =
    absurd (no_loop n (moves start new old (suc n) n w.along a s))
ended_by start old new n entered None moves a w s = (w.0, w.1, w.2)

moved_by : (start old new : Decoding) (n : ℕ) (entered : Answer) (next : Option ℕ)
    → GoesOn start n next old entered new → (new.state.pointer ≡ old.state.pointer → ⊥)
    → Arrives start (suc n) entered new
moved_by start old new n entered (Some p) w s = w
moved_by start old new n entered None w s = absurd (s (ap (λ (d : Decoding). d.state.pointer) w.3))

apart : (old new : Decoding) (here place : IfdPointer) → old.state.pointer ≡ Some here
    → new.state.pointer ≡ Some place → (Same place here → ⊥)
    → new.state.pointer ≡ old.state.pointer → ⊥
apart old new here place h p d s =
    d (ap (λ (x : IfdPointer). x.0) (place_is old.state.pointer place here (sym s ∙ p) h))

-- The pointer of the decoder stayed: the chain ends by the error.
pub ended : WalkMoves → (start old new : Decoding) (items : List PageItem)
    (l : ListsAlong start old items) (entered : Answer) (here place : IfdPointer)
    → WentOn start old items l entered new → old.state.pointer ≡ Some here
    → new.state.pointer ≡ Some place → Same place here
    → (e : TiffError) × (entered ≡ Err e) × EndsBehind start l.listed.number (Some e)
ended moves start old new items l entered here place w h p s =
    ended_by start old new l.listed.number entered (slice_get (chain_of start).offsets (suc l.listed.number)) moves l.listed.along w.went (same_pointer old new here place h p s)

-- The pointer of the decoder moved: it is at the next directory.
pub moved : (start old new : Decoding) (items : List PageItem) (l : ListsAlong start old items)
    (entered : Answer) (here place : IfdPointer)
    → WentOn start old items l entered new → old.state.pointer ≡ Some here
    → new.state.pointer ≡ Some place → (Same place here → ⊥)
    → Arrives start (suc l.listed.number) entered new
moved start old new items l entered here place w h p d =
    moved_by start old new l.listed.number entered (slice_get (chain_of start).offsets (suc l.listed.number)) w.went (apart old new here place h p d)

-- ---- one more page

-- The next page was listed.
pub lists_next : (start old mid new : Decoding) (before items : List PageItem)
    (l : ListsAlong start old before) (entered : Answer) (item : PageItem)
    → WentOn start old before l entered mid → Arrives start (suc l.listed.number) entered mid
    → new ≡ mid → mid.state.pointer ≡ Some item.place
    → item.page ≡ facts_told entered mid.state.page → items ≡ before ++ item ∷ []
    → ListsAlong start new items
lists_next start old mid new before items l entered item w a s place page e =
    let P : Decoding → Type 0 = λ x. ListsAlong start x items in
    subst P (sym s) (record {
      listed = listed_next (item_at start) start old mid before items l.listed a.along
          (appended start mid (suc l.listed.number) entered a item before items place page e);
      state = w.state;
    })

pub fewer : (start old new : Decoding) (before items : List PageItem) (item : PageItem)
    → ListsAlong start old before → ListsAlong start new items → items ≡ before ++ item ∷ []
    → length (chain_of start).offsets - length items
    < length (chain_of start).offsets - length before
fewer start old new before items item l m e =
    listed_fewer (item_at start) start old new before items l.listed m.listed item e

-- ---- the end

-- All pages are listed, and the chain ends by `told`.
pub all_listed : (start d : Decoding) (items : List PageItem) (l : ListsAlong start d items)
    (end told : Option TiffError) → EndsBehind start l.listed.number end → told ≡ end
    → record { items = items; end = told } ≡ pages_of start
all_listed start d items l end told e h =
    let all = listed_all (item_at start) start d items l.listed end e in
    let ends = h ∙ sym e.is_end in
    λ i. record { items = all i; end = ends i }

-- Where the decoder is at the end of a chain that ends by no error, and of one that ends by an
-- error.
pub stands_last : (start d : Decoding) (items : List PageItem) (l : ListsAlong start d items)
    → EndsBehind start l.listed.number None
    → d ≡ record start { state = state_along start (times_to_end start) }
stands_last start d items l e =
    let n : l.listed.number ≡ length (chain_of start).offsets - 1 = omega (arith, e.last) in
    let times = n ∙ ap (times_on (length (chain_of start).offsets)) (sym e.is_end) in
    l.state ∙ ap (λ (k : ℕ). record start { state = state_along start k }) times

pub stands_behind : (start old new : Decoding) (items : List PageItem)
    (l : ListsAlong start old items) (entered : Answer) (e : TiffError)
    → WentOn start old items l entered new
    → EndsBehind start l.listed.number (Some e)
    → new ≡ record start { state = state_along start (times_to_end start) }
stands_behind start old new items l entered e w b =
    let times = sym b.last ∙ ap (times_on (length (chain_of start).offsets)) (sym b.is_end) in
    w.state ∙ ap (λ (k : ℕ). record start { state = state_along start k }) times
