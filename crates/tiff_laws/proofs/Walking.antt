-- A decoder goes along the pages of its file.
use Rattle.std.proofs.Common.{◌≡◌, ℕ, zero, suc, ◌<◌, List, [], ◌∷◌, length, Option, None, Some, Bool, true, false, cond, Result, Ok, Err, refl, ap, sym, ◌∙◌, subst, arith, nat_eq}
use Rattle.std.proofs.lemmas.Bool.Decides.{nat_tests}
use Rattle.std.proofs.lemmas.Map.Keys.{IsDistinct-head, IsDistinct-tail}
use Rattle.std.proofs.lemmas.Option.{slice_get_within}
use Rattle.std.specs.Prelude.{◌==◌, is_some}
use Rattle.std.specs.List.{slice_get, list_any, IsDistinct, AllByRecursion}
use Rattle.tiff_base.specs.declared.error.TiffError.{TiffError}
use Rattle.tiff_base.specs.declared.error.TiffError.TheVariants.{FormatError}
use Rattle.tiff_base.specs.declared.error.TiffFormatError.TheVariants.{CycleInOffsets}
use Rattle.tiff_base.specs.declared.tags.IfdPointer.{IfdPointer}
use Rattle.tiff_base.specs.Answers.{◌>>=◌}
use Rattle.tiff_base.specs.Directory.{directory_at}
use Rattle.tiff_base.specs.Field.{DirectoryRecord}
use Rattle.tiff_base.specs.Header.{Header, header_at}
use Rattle.tiff_ifd.specs.Chain.{IsChain, enter_at, link_from, unless_met}
use Rattle.tiff_ifd.specs.TagLookup.{ok_or_fault}
use Rattle.tiff_ifd.specs.lemmas.Chain.{the_chain, apart_chain, same_ok}
use Rattle.tiff_page.specs.Page.{PageRecord}
use Rattle.tiff_decode.specs.Machine.{State, Decoding, Outcome, GivesOutcome, stays}
use Rattle.tiff_decode.specs.Outcome.{decoder_of, chain_from, chain_of, first_directory, first_decoder, page_in, end_fault, offset_after, next_offset, next_outcome, next_image, enter, entry_outcome, with_page}
use Rattle.tiff_decode.specs.DefaultLimits.{default_limits}
use Rattle.tiff_decode.specs.lemmas.ChainPosition.{next_by, past_end, sought_by}
use Rattle.tiff_laws.specs.Pages.{SameFile, IsAlong, PageAnswers, Arrives, GoesOn, IsAtFirst, WalkOpens, WalkSeeks, WalkGoesOn, WalkEnds, WalkMoves}

abbrev Link : Type 0
Link = Result (Option ℕ) TiffError

abbrev Answer : Type 0
Answer = Result (Unit {0}) TiffError

-- ---- the chain

none_behind : (link : ℕ → Link) (met : List ℕ) (next : Option ℕ) (ps : List ℕ) (end : Option TiffError)
    → next ≡ None → IsChain link met next ps end → (ps ≡ []) × (end ≡ None)
none_behind link met None [] end e h = (refl, h)
none_behind link met None (p ∷ ps) end e h = absurd h
none_behind link met (Some n) ps end e h = absurd (cc)

fault_behind : (link : ℕ → Link) (met : List ℕ) (next : Option ℕ) (ps : List ℕ)
    (end : Option TiffError) (m : ℕ)
    → next ≡ Some m → slice_get ps zero ≡ None → IsChain link met next ps end
    → (e : TiffError) × (end ≡ Some e)
fault_behind link met None ps end m e s h = absurd (cc)
fault_behind link met (Some n) [] end m e s h = (h.0, h.2)
fault_behind link met (Some n) (p ∷ ps) end m e s h = absurd (cc)

unlinked : (link : ℕ → Link) (met : List ℕ) (n : ℕ) (after : Option ℕ) → link n ≡ Ok None
    → enter_at link met n ≡ Ok after → after ≡ None
unlinked link met n after l h =
    same_ok (enter_at link met n) after None h (ap (λ (r : Link). r >>= unless_met (n ∷ met)) l)

fail_if_cyclic : (b : Bool) (m : ℕ) (after : Option ℕ)
    → cond b (Err (FormatError CycleInOffsets)) (Ok (Some m)) ≡ Ok after → after ≡ Some m
fail_if_cyclic true m after h = absurd (cc)
fail_if_cyclic false m after h = cc

linked : (link : ℕ → Link) (met : List ℕ) (n m : ℕ) (after : Option ℕ) → link n ≡ Ok (Some m)
    → enter_at link met n ≡ Ok after → after ≡ Some m
linked link met n m after l h =
    fail_if_cyclic (list_any (nat_eq m) (n ∷ met)) m after (sym (ap (λ (r : Link). r
    >>= unless_met (n ∷ met)) l) ∙ h)

-- a chain stops, without an error, at an offset that links to none
chain_stops : (link : ℕ → Link) (met : List ℕ) (next : Option ℕ) (ps : List ℕ)
    (end : Option TiffError) (i offset : ℕ)
    → IsChain link met next ps end → slice_get ps i ≡ Some offset → link offset ≡ Ok None
    → (length ps ≡ suc i) × (end ≡ None)
chain_stops link met next [] end i offset h s l = absurd (cc)
chain_stops link met None (p ∷ ps) end i offset h s l = absurd h
chain_stops link met (Some n) (p ∷ ps) end zero offset h s l =
    let e : p ≡ offset = cc in
    let none =
    none_behind link (n ∷ met) h.1 ps end (unlinked link met n h.1 (ap link (sym h.0 ∙ e)
    ∙ l) h.2) h.3 in
    (ap (λ (xs : List ℕ). length (p ∷ xs)) none.0, none.1)
chain_stops link met (Some n) (p ∷ ps) end (suc i) offset h s l =
    let rest = chain_stops link (n ∷ met) h.1 ps end i offset h.3 s l in
    (ap suc rest.0, rest.1)

-- a chain ends by an error if its last offset links on
chain_faults : (link : ℕ → Link) (met : List ℕ) (next : Option ℕ) (ps : List ℕ)
    (end : Option TiffError) (i offset m : ℕ)
    → IsChain link met next ps end → slice_get ps i ≡ Some offset → slice_get ps (suc i) ≡ None
    → link offset ≡ Ok (Some m) → (e : TiffError) × (end ≡ Some e)
chain_faults link met next [] end i offset m h s t l = absurd (cc)
chain_faults link met None (p ∷ ps) end i offset m h s t l = absurd h
chain_faults link met (Some n) (p ∷ ps) end zero offset m h s t l =
    let e : p ≡ offset = cc in
    fault_behind link (n ∷ met) h.1 ps end m (linked link met n m h.1 (ap link (sym h.0 ∙ e)
    ∙ l) h.2) t h.3
chain_faults link met (Some n) (p ∷ ps) end (suc i) offset m h s t l =
    chain_faults link (n ∷ met) h.1 ps end i offset m h.3 s t l

bound : {A B : Type 0} (r : Result A TiffError) (f : A → Result B TiffError) (b : B)
    → (r >>= f) ≡ Ok b → (a : A) × (r ≡ Ok a) × (f a ≡ Ok b)
bound (Ok a) f b h = (a, refl, h)
bound (Err e) f b h = absurd (cc)

-- the directory at each offset of a chain is read
chain_links : (link : ℕ → Link) (met : List ℕ) (next : Option ℕ) (ps : List ℕ)
    (end : Option TiffError) (i offset : ℕ)
    → IsChain link met next ps end → slice_get ps i ≡ Some offset
    → (after : Option ℕ) × (link offset ≡ Ok after)
chain_links link met next [] end i offset h s = absurd (cc)
chain_links link met None (p ∷ ps) end i offset h s = absurd h
chain_links link met (Some n) (p ∷ ps) end zero offset h s =
    let e : p ≡ offset = cc in
    let b = bound (link n) (unless_met (n ∷ met)) h.1 h.2 in
    (b.0, ap link (sym e ∙ h.0) ∙ b.1)
chain_links link met (Some n) (p ∷ ps) end (suc i) offset h s =
    chain_links link (n ∷ met) h.1 ps end i offset h.3 s

no_next : (o : Option ℕ) → is_some o ≡ false → o ≡ None
no_next None h = refl
no_next (Some x) h = absurd (cc)

some_next : (o : Option ℕ) → is_some o ≡ true → (n : ℕ) × (o ≡ Some n)
some_next None h = absurd (cc)
some_next (Some n) h = (n, refl)

links_to : (r : Result DirectoryRecord TiffError) (directory : DirectoryRecord) (next : Option ℕ)
    → r ≡ Ok directory → directory.next ≡ next
    → (r >>= λ x. Ok x.next) ≡ Ok next
links_to r directory next e h =
    ap (λ (x : Result DirectoryRecord TiffError). x >>= λ y. Ok y.next) e
    ∙ ap (λ (o : Option ℕ). Ok o) h

abbrev links : Decoding → ℕ → Link
links d = link_from d.kind d.order d.bytes

abbrev chain_is : (d : Decoding)
    → IsChain (links d) [] (Some d.first) (chain_of d).offsets (chain_of d).end
chain_is d = the_chain d.kind d.order d.bytes d.first

-- the directory at an offset of the chain
there_is : (d : Decoding) (number offset : ℕ) → slice_get (chain_of d).offsets number ≡ Some offset
    → (directory : DirectoryRecord) × (directory_at d.kind d.order d.bytes offset ≡ Ok directory)
there_is d number offset s =
    let l =
    chain_links (links d) [] (Some d.first) (chain_of d).offsets (chain_of d).end number offset
    (chain_is d) s in
    let b = bound (directory_at d.kind d.order d.bytes offset) (λ x. Ok x.next) l.0 l.1 in
    (b.0, b.1)

-- ---- numbers and offsets

equal : (q p : ℕ) → q ≡ p → (q == p) ≡ true
equal q p h = grind (arith, nat_tests)

differ : (q p : ℕ) → nat_eq q p ≡ false → (q == p) ≡ false
differ q p h = grind (arith, nat_tests)

each_at : (P : ℕ → Type 0) (ps : List ℕ) (i p : ℕ) → AllByRecursion P ps → slice_get ps i ≡ Some p
    → P p
each_at P [] i p a h = absurd (cc)
each_at P (q ∷ ps) zero p a h = (let e : q ≡ p = cc in subst P e a.0)
each_at P (q ∷ ps) (suc i) p a h = each_at P ps i p a.1 h

-- the offset after one that is in the chain once
after_is : (ps : List ℕ) (i p : ℕ) → IsDistinct nat_eq ps → slice_get ps i ≡ Some p
    → offset_after p ps ≡ slice_get ps (suc i)
after_is [] i p d h = absurd (cc)
after_is (q ∷ ps) zero p d h =
    let e : q ≡ p = cc in
    ap (λ (b : Bool). cond b (slice_get ps 0) (offset_after p ps)) (equal q p e)
after_is (q ∷ ps) (suc i) p d h =
    ap (λ (b : Bool). cond b (slice_get ps 0) (offset_after p ps))
    (differ q p (each_at (λ y. nat_eq q y ≡ false) ps i p (IsDistinct-head nat_eq q ps d) h))
    ∙ after_is ps i p (IsDistinct-tail nat_eq q ps d) h

unequal : (q p : ℕ) → nat_eq q p ≡ false → q ≡ p → ⊥
unequal q p h e = grind (arith, nat_tests)

-- an offset has one number
one_number : (ps : List ℕ) (i j p : ℕ) → IsDistinct nat_eq ps → slice_get ps i ≡ Some p
    → slice_get ps j ≡ Some p → i ≡ j
one_number [] i j p d h k = absurd (cc)
one_number (q ∷ ps) zero zero p d h k = refl
one_number (q ∷ ps) zero (suc j) p d h k =
    let e : q ≡ p = cc in
    absurd (unequal q p (each_at (λ y. nat_eq q y
    ≡ false) ps j p (IsDistinct-head nat_eq q ps d) k) e)
one_number (q ∷ ps) (suc i) zero p d h k =
    let e : q ≡ p = cc in
    absurd (unequal q p (each_at (λ y. nat_eq q y
    ≡ false) ps i p (IsDistinct-head nat_eq q ps d) h) e)
one_number (q ∷ ps) (suc i) (suc j) p d h k =
    ap suc (one_number ps i j p (IsDistinct-tail nat_eq q ps d) h k)

offset_there : (ps : List ℕ) (i : ℕ) → i < length ps → (p : ℕ) × (slice_get ps i ≡ Some p)
offset_there [] i h = absurd (omega (arith, h))
offset_there (p ∷ ps) zero h = (p, refl)
offset_there (p ∷ ps) (suc i) h = offset_there ps i (omega (arith, h))

-- ---- the same file

same_here : (d : Decoding) → SameFile d d
same_here d = record { bytes = refl; kind = refl; order = refl; first = refl; limits = refl }

same_chain : (a b : Decoding) → SameFile a b → chain_of b ≡ chain_of a
same_chain a b s = (let k = s.kind in let o = s.order in let y = s.bytes in let f = s.first in cc)

same_directory : (a b : Decoding) (offset : ℕ) → SameFile a b
    → directory_at b.kind b.order b.bytes offset ≡ directory_at a.kind a.order a.bytes offset
same_directory a b offset s = (let k = s.kind in let o = s.order in let y = s.bytes in cc)

same_page : (a b : Decoding) (directory : DirectoryRecord) → SameFile a b
    → page_in b.kind b.order b.bytes b.state.limits directory
    ≡ page_in a.kind a.order a.bytes a.state.limits directory
same_page a b directory s =
    (let k = s.kind in let o = s.order in let y = s.bytes in let l = s.limits in cc)

same_on : (a b c : Decoding) (s : State) → SameFile a b → c ≡ record b { state = s }
    → s.limits ≡ b.state.limits → SameFile a c
same_on a b c s same e l = record {
  bytes = ap (λ (d : Decoding). d.bytes) e ∙ same.bytes;
  kind = ap (λ (d : Decoding). d.kind) e ∙ same.kind;
  order = ap (λ (d : Decoding). d.order) e ∙ same.order;
  first = ap (λ (d : Decoding). d.first) e ∙ same.first;
  limits = ap (λ (d : Decoding). d.state.limits) e ∙ l ∙ same.limits;
}

-- ---- a directory is entered

-- A directory was entered: where the decoder is, and the result for its page.
record Entered (start : Decoding) (offset : ℕ) (directory : DirectoryRecord) (answer : Answer)
    (new : Decoding) : Type 0 where
  same : SameFile start new
  pointer : new.state.pointer ≡ Some (record { 0 = offset })
  more : new.state.more ≡ is_some directory.next
  page : PageAnswers start offset answer new

abbrev placed : Decoding → ℕ → DirectoryRecord → State
placed old offset directory =
    record old.state { pointer = Some (record { 0 = offset }); more = is_some directory.next }

entered_by : (start old new : Decoding) (offset : ℕ) (directory : DirectoryRecord)
    (p : Result PageRecord TiffError) (answer : Answer) → SameFile start old
    → directory_at start.kind start.order start.bytes offset ≡ Ok directory
    → page_in start.kind start.order start.bytes start.state.limits directory ≡ p
    → GivesOutcome answer (with_page (placed old offset directory) directory p) old new
    → Entered start offset directory answer new
entered_by start old new offset directory (Ok page) (Ok u) same is_directory is_page g =
    let state = ap (λ (d : Decoding). d.state) g.at in
    let D : DirectoryRecord → Type 0 =
    λ x. directory_at start.kind start.order start.bytes offset ≡ Ok x in
    let is = ap (λ (s : State). s.directory) state in
    record {
      same = same_on start old new _ same g.at refl;
      pointer = ap (λ (s : State). s.pointer) state;
      more = ap (λ (s : State). s.more) state;
      page = (
        subst D (sym is) is_directory,
        ap (page_in start.kind start.order start.bytes start.state.limits) is ∙ is_page
            ∙ ap (λ (s : State). Ok s.page) (sym state),
      );
    }
entered_by start old new offset directory (Ok page) (Err e) same is_directory is_page g =
    (let a = g.answer in absurd (cc))
entered_by start old new offset directory (Err f) (Ok u) same is_directory is_page g =
    (let a = g.answer in absurd (cc))
entered_by start old new offset directory (Err f) (Err e) same is_directory is_page g =
    let state = ap (λ (d : Decoding). d.state) g.at in
    let told : f ≡ e = (let a = g.answer in cc) in
    record {
      same = same_on start old new _ same g.at refl;
      pointer = ap (λ (s : State). s.pointer) state;
      more = ap (λ (s : State). s.more) state;
      page =
          ap (λ (r : Result DirectoryRecord TiffError). r
          >>= page_in start.kind start.order start.bytes start.state.limits) is_directory ∙ is_page
          ∙ ap (λ (x : TiffError). Err x) told;
    }

enter_by : (start old : Decoding) (offset : ℕ) (directory : DirectoryRecord) → SameFile start old
    → directory_at start.kind start.order start.bytes offset ≡ Ok directory
    → enter old offset ≡ with_page (placed old offset directory) directory
    (page_in start.kind start.order start.bytes start.state.limits directory)
unfolding enter
enter_by start old offset directory same h =
    ap (entry_outcome old offset) (same_directory start old offset same ∙ h)
    ∙ ap (with_page (placed old offset directory) directory) (same_page start old directory same)

page_answer : (s t : State) (directory : DirectoryRecord) (r : Result PageRecord TiffError)
    → (with_page s directory r).answer ≡ (with_page t directory r).answer
page_answer s t directory (Ok page) = refl
page_answer s t directory (Err e) = refl

-- the decoder came to the offset of a number
came_to : (start old new : Decoding) (number offset : ℕ) (answer : Answer) → SameFile start old
    → slice_get (chain_of start).offsets number ≡ Some offset
    → GivesOutcome answer (enter old offset) old new → Arrives start number answer new
came_to start old new number offset answer same is_offset g =
    let d = there_is start number offset is_offset in
    let p = page_in start.kind start.order start.bytes start.state.limits d.0 in
    let G : Outcome (Unit {0}) → Type 0 = λ o. GivesOutcome answer o old new in
    let h : GivesOutcome answer (with_page (placed old offset d.0) d.0 p) old new =
    subst G (enter_by start old offset d.0 same d.1) g in
    let e = entered_by start old new offset d.0 p answer same d.1 refl h in
    record {
      along = record {
        same = e.same;
        offset = offset;
        is_offset = is_offset;
        pointer = e.pointer;
        directory = d.0;
        is_directory = d.1;
        more = e.more;
      };
      sought =
          ap (λ (o : Outcome (Unit {0})). o.answer) (sought_by start number (Some offset) is_offset
          ∙ enter_by start start offset d.0 (same_here start) d.1)
          ∙ page_answer (placed start offset d.0) (placed old offset d.0) d.0 p ∙ h.answer;
      page = e.page;
    }

-- ---- the laws

pub walk_seeks : WalkSeeks
walk_seeks start old new number answer same some g =
    let f = offset_there (chain_of start).offsets number some in
    let G : Outcome (Unit {0}) → Type 0 = λ o. GivesOutcome answer o old new in
    let is_offset = ap (λ c. slice_get c.offsets number) (same_chain start old same) ∙ f.1 in
    came_to start old new number f.0 answer same f.1 (subst G (sought_by old number (Some f.0) is_offset) g)

next_at : (start d : Decoding) (number : ℕ) (a : IsAlong start number d) → d.state.more ≡ true
    → next_image d ≡ next_outcome d (slice_get (chain_of start).offsets (suc number))
next_at start d number a m =
    let here = ap (λ (p : Option IfdPointer). next_offset p (chain_of d).offsets) a.pointer in
    let chained = ap (λ (x : _). offset_after a.offset x.offsets) (same_chain start d a.same) in
    let apart = (apart_chain start.kind start.order start.bytes start.first).differ in
    next_by d (slice_get (chain_of start).offsets (suc number)) m (here ∙ chained
    ∙ after_is (chain_of start).offsets number a.offset apart a.is_offset)

ends_at : (start : Decoding) (number offset : ℕ)
    → slice_get (chain_of start).offsets number ≡ Some offset
    → slice_get (chain_of start).offsets (suc number) ≡ None
    → length (chain_of start).offsets ≡ suc number
ends_at start number offset s t =
    let within = slice_get_within (chain_of start).offsets number offset s in
    let past = past_end (chain_of start).offsets (suc number) t in
    omega arith

goes_on : (start old new : Decoding) (number : ℕ) (answer : Answer) (next : Option ℕ)
    → IsAlong start number old → old.state.more ≡ true
    → slice_get (chain_of start).offsets (suc number) ≡ next
    → GivesOutcome answer (next_outcome old next) old new
    → GoesOn start number next old answer new
goes_on start old new number answer (Some offset) a m s g =
    came_to start old new (suc number) offset answer a.same s g
goes_on start old new number answer None a m s g =
    let some = some_next a.directory.next (sym a.more ∙ m) in
    let fault =
    chain_faults (links start) [] (Some start.first) (chain_of start).offsets
    (chain_of start).end number a.offset some.0 (chain_is start) a.is_offset s
    (links_to (directory_at start.kind start.order start.bytes a.offset) a.directory (Some some.0) a.is_directory some.1) in
    let told = ap (λ c. end_fault c.end) (same_chain start old a.same) ∙ ap end_fault fault.1 in
    (fault.0, sym g.answer ∙ ap (λ (e : TiffError). Err e) told, record { last = ends_at start number a.offset a.is_offset s; is_end = fault.1 }, g.at)

pub walk_goes_on : WalkGoesOn
walk_goes_on start old new number answer a m g =
    let G : Outcome (Unit {0}) → Type 0 = λ o. GivesOutcome answer o old new in
    goes_on start old new number answer (slice_get (chain_of start).offsets (suc number)) a m refl
    (subst G (next_at start old number a m) g)

pub walk_ends : WalkEnds
walk_ends start d number a m =
    let stop =
    chain_stops (links start) [] (Some start.first) (chain_of start).offsets
    (chain_of start).end number a.offset (chain_is start) a.is_offset
    (links_to (directory_at start.kind start.order start.bytes a.offset) a.directory None a.is_directory (no_next a.directory.next (sym a.more ∙ m))) in
    record { last = stop.0; is_end = stop.1 }

abbrev pointer_to : ℕ → Option IfdPointer
pointer_to o = Some (record { 0 = o })

abbrev offset_in : Option IfdPointer → ℕ
offset_in None = 0
offset_in (Some p) = p.0

pointed : (o p : ℕ) → pointer_to o ≡ pointer_to p → o ≡ p
pointed o p h = ap offset_in h

pub walk_moves : WalkMoves
walk_moves start a b n m x y h =
    let e : x.offset ≡ y.offset = pointed x.offset y.offset (sym x.pointer ∙ h ∙ y.pointer) in
    one_number (chain_of start).offsets n m x.offset (apart_chain start.kind start.order start.bytes start.first).differ x.is_offset
    (y.is_offset ∙ ap (λ (o : ℕ). Some o) (sym e))

-- ---- a decoder that was opened

given : {A : Type 0} (r : Result A TiffError) (a b : A) → r ≡ Ok a → r ≡ Ok b → a ≡ b
given r a b e f = cc

is_known : {A : Type 0} (o : Option A) (e : TiffError) (a : A) → ok_or_fault o e ≡ Ok a → o ≡ Some a
is_known None e a h = absurd (cc)
is_known (Some x) e a h = cc

was_first : (file : List ℕ) (found : Header × ℕ × DirectoryRecord) → first_directory file ≡ Ok found
    → (header_at file ≡ Ok found.0) × (slice_get (chain_from found.0 file).offsets 0 ≡ Some found.1)
    × (directory_at found.0.kind found.0.order file found.1 ≡ Ok found.2)
unfolding first_directory
was_first file found h =
    let header = bound (header_at file) _ found h in
    let offset =
    bound (ok_or_fault (slice_get (chain_from header.0 file).offsets 0) (end_fault (chain_from header.0 file).end)) _ found header.2 in
    let directory =
    bound (directory_at header.0.kind header.0.order file offset.0) _ found offset.2 in
    let P : Header × ℕ × DirectoryRecord → Type 0 =
    λ x. (header_at file ≡ Ok x.0) × (slice_get (chain_from x.0 file).offsets 0 ≡ Some x.1)
    × (directory_at x.0.kind x.0.order file x.1 ≡ Ok x.2) in
    subst P (given _ _ _ refl directory.2) (header.1, is_known _ _ _ offset.1, directory.1)

-- the first offset of a chain is the one that it begins with
begins_with : (link : ℕ → Link) (met : List ℕ) (first offset : ℕ) (ps : List ℕ) (end : Option TiffError)
    → IsChain link met (Some first) ps end → slice_get ps 0 ≡ Some offset → offset ≡ first
begins_with link met first offset [] end h s = absurd (cc)
begins_with link met first offset (p ∷ ps) end h s = (let e : p ≡ offset = cc in sym e ∙ h.0)

-- the decoder is at the first page, as after a seek to it
opened_at : (file : List ℕ) (failures : ℕ) (header : Header) (offset : ℕ)
    (directory : DirectoryRecord) (page : PageRecord)
    → header_at file ≡ Ok header → slice_get (chain_from header file).offsets 0 ≡ Some offset
    → directory_at header.kind header.order file offset ≡ Ok directory
    → page_in header.kind header.order file default_limits directory ≡ Ok page
    → IsAtFirst file (first_decoder file failures header offset directory page)
opened_at file failures header offset directory page is_header is_offset is_directory is_page =
    let d = first_decoder file failures header offset directory page in
    let entered : enter d offset ≡ stays d (Ok tt) =
    enter_by d d offset directory (same_here d) is_directory
    ∙ ap (with_page (placed d offset directory) directory) is_page in
    let at : offset ≡ header.first =
    begins_with (links d) [] d.first offset (chain_of d).offsets (chain_of d).end
    (chain_is d) is_offset in
    record {
      bytes = refl;
      header = is_header;
      first = is_offset ∙ ap (λ (o : ℕ). Some o) at;
      stays = sought_by d 0 (Some offset) is_offset ∙ entered;
      arrives = came_to d d d 0 offset (Ok tt) (same_here d) is_offset (record {
        answer = ap (λ (x : Outcome (Unit {0})). x.answer) entered;
        at = ap (λ (x : Outcome (Unit {0})). record d { state = x.next }) (sym entered);
      });
    }

pub walk_opens : WalkOpens
unfolding decoder_of
walk_opens file failures d h =
    let found = bound (first_directory file) _ d h in
    let page =
    bound (page_in found.0.0.kind found.0.0.order file default_limits found.0.2) _ d found.2 in
    let first = was_first file found.0 found.1 in
    let P : Decoding → Type 0 = λ x. IsAtFirst file x in
    subst P (given _ _ _ refl page.2) (opened_at file failures found.0.0 found.0.1 found.0.2 page.0 first.0 first.1 first.2 page.1)
