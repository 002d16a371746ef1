-- A file whose chain has no directory.
use Rattle.std.proofs.Common.{◌≡◌, ℕ, ◌<◌, List, [], ◌∷◌, length, map, Option, None, Some, Bool, true, false, not, cond, Result, Ok, Err, IfOk, OnErr, OnOk, inr, refl, ap, sym, ◌∙◌, arith}
use Rattle.std.specs.List.{slice_get, last_or}
use Rattle.std.specs.Prelude.{is_some, option_map}
use Rattle.std.specs.Result.{result_err}
use Rattle.tiff_base.specs.declared.error.TiffError.{TiffError}
use Rattle.tiff_base.specs.declared.tags.IfdPointer.{IfdPointer}
use Rattle.tiff_ifd.specs.Chain.{IsChain, link_from}
use Rattle.tiff_ifd.specs.lemmas.Chain.{the_chain}
use Rattle.tiff_decode.specs.Machine.{State, Decoding, Outcome, Follows, GivesOutcome}
use Rattle.tiff_decode.specs.Opened.{rewound}
use Rattle.tiff_decode.specs.Outcome.{chain_of, end_fault, last_offset, not_found, seek_past_end, seek_to_image}
use Rattle.tiff_decode.specs.lemmas.ChainPosition.{sought_by}
use Rattle.tiff_laws.specs.Pages.{Arrives, WalkSeeks}
use Rattle.tiff_pages.specs.declared.pages.PageItem.{PageItem}
use Rattle.tiff_pages.proofs.Along.{Answer, of_file}
use Rattle.tiff_pages.specs.Pages.{IsOfFile, WasOnItsWay, item_at, pages_of, state_along, times_on, times_to_end}

-- such a chain ends by an error
ends_by : (link : ℕ → Result (Option ℕ) TiffError) (first : ℕ) (offsets : List ℕ)
    (end : Option TiffError) → IsChain link [] (Some first) offsets end → offsets ≡ []
    → (e : TiffError) × (end ≡ Some e)
ends_by link first [] end c h = (c.0, c.2)
ends_by link first (o ∷ os) end c h = absurd (cc)

ends : (d : Decoding) → (chain_of d).offsets ≡ [] → (e : TiffError) × ((chain_of d).end ≡ Some e)
ends d h =
    ends_by (link_from d.kind d.order d.bytes) d.first (chain_of d).offsets (chain_of d).end
    (the_chain d.kind d.order d.bytes d.first) h

-- the state past the end of such a chain
abbrev past_none : Decoding → State
past_none d = record d.state { pointer = None; more = false }

-- a seek to its first page finds none
none_sought : (d : Decoding) → (chain_of d).offsets ≡ [] → seek_to_image d 0 ≡ seek_past_end d
none_sought d h = sought_by d 0 None (ap (λ (ps : List ℕ). slice_get ps 0) h)

past_by : (d : Decoding) (more : Bool) → d.state.more ≡ more → (chain_of d).offsets ≡ []
    → (seek_past_end d).next ≡ past_none d
past_by d true m h =
    ap (λ (b : Bool). (cond {A = Outcome (Unit {0})} b (record {
      answer = Err (end_fault (chain_of d).end);
      next = record d.state { pointer = last_offset d; more = false };
    }) (record { answer = Err not_found; next = record d.state { pointer = None } })).next) m
    ∙ ap (λ (ps : List ℕ). record d.state { pointer = option_map (λ offset. record { 0 = offset }) (last_or None ps); more = false }) h
past_by d false m h =
    ap (λ (b : Bool). (cond {A = Outcome (Unit {0})} b (record {
      answer = Err (end_fault (chain_of d).end);
      next = record d.state { pointer = last_offset d; more = false };
    }) (record { answer = Err not_found; next = record d.state { pointer = None } })).next) m
    ∙ (λ i. record d.state { pointer = None; more = m i })

past_is : (d : Decoding) → (chain_of d).offsets ≡ [] → (seek_to_image d 0).next ≡ past_none d
past_is d h =
    ap (λ (o : Outcome (Unit {0})). o.next) (none_sought d h) ∙ past_by d d.state.more refl h

-- A decoder that went back and sought the first page has the error by which the chain ends, and is
-- past the end as one that sought it from where it was.
pub found_none : (d new : Decoding) (answer entered : Answer) → (chain_of d).offsets ≡ []
    → (entered ≡ answer) × IsOfFile answer
    → Follows (λ x. x) (seek_to_image (rewound d) 0) answer (rewound d) new
    → (result_err entered ≡ (chain_of d).end)
    × (new ≡ record d { state = (seek_to_image d 0).next })
found_none d new answer entered h told f =
    let gives = of_file (Unit {0}) (seek_to_image (rewound d) 0) answer (rewound d) new told.1 f in
    let end = ends d h in
    let refused : answer ≡ Err end.0 =
    sym gives.answer ∙ ap (λ (o : Outcome (Unit {0})). o.answer) (none_sought (rewound d) h)
    ∙ ap (λ (x : Option TiffError). Err (end_fault x)) end.1 in
    (ap result_err (told.0 ∙ refused) ∙ sym end.1, gives.at ∙ ap (λ (s : State). record d { state = s }) (past_is (rewound d) h ∙ sym (past_is d h)))

-- ---- whether the chain has a directory

pub none_by : (pointer : Option IfdPointer) (none : Bool) → is_some pointer ≡ not none → none ≡ true
    → pointer ≡ None
none_by None none h n = refl
none_by (Some p) true h n = absurd (cc)
none_by (Some p) false h n = absurd (cc)

pub some_by : (pointer : Option IfdPointer) (none : Bool) → is_some pointer ≡ not none
    → none ≡ false → pointer ≡ None → ⊥
some_by pointer true h n p = absurd (cc)
some_by None false h n p = absurd (cc)
some_by (Some q) false h n p = absurd (cc)

-- A decoder sought the first page of a chain without directories.
pub record FoundNone (start mid : Decoding) : Type 0 where
  pub none : (chain_of start).offsets ≡ []
  pub at : mid ≡ record start { state = past_none start }

found_by : (start mid : Decoding) (answer : Answer) (offsets : List ℕ)
    → (chain_of start).offsets ≡ offsets → WalkSeeks
    → GivesOutcome answer (seek_to_image start 0) start mid
    → mid.state.pointer ≡ None → FoundNone start mid
found_by start mid answer [] h seeks gives p =
    record { none = h; at = gives.at ∙ ap (λ (s : State). record start { state = s }) (past_is start h) }
found_by start mid answer (o ∷ os) h seeks gives p =
    let n = ap (λ (ps : List ℕ). length ps) h in
    let a : Arrives start 0 answer mid =
    seeks start start mid 0 answer (record { bytes = refl; kind = refl; order = refl; first = refl; limits = refl }) (omega (arith, n)) gives in
    let q = sym p ∙ a.along.pointer in
    absurd (cc)

pub found : (start mid : Decoding) (answer : Answer) → WalkSeeks → IsOfFile answer
    → Follows (λ x. x) (seek_to_image start 0) answer start mid → mid.state.pointer ≡ None
    → FoundNone start mid
found start mid answer seeks told f p =
    found_by start mid answer (chain_of start).offsets refl seeks
    (of_file (Unit {0}) (seek_to_image start 0) answer start mid told f) p

some_of : (start mid : Decoding) (answer : Answer) (offsets : List ℕ)
    → (chain_of start).offsets ≡ offsets → GivesOutcome answer (seek_to_image start 0) start mid
    → (mid.state.pointer ≡ None → ⊥) → 0 < length (chain_of start).offsets
some_of start mid answer [] h gives p =
    absurd (p (ap (λ (d : Decoding). d.state.pointer) gives.at
    ∙ ap (λ (s : State). s.pointer) (past_is start h)))
some_of start mid answer (o ∷ os) h gives p =
    (let n = ap (λ (ps : List ℕ). length ps) h in omega (arith, n))

-- The pointer of a decoder that sought the first page shows that there is one.
pub some_here : (start mid : Decoding) (answer : Answer) → IsOfFile answer
    → Follows (λ x. x) (seek_to_image start 0) answer start mid → (mid.state.pointer ≡ None → ⊥)
    → 0 < length (chain_of start).offsets
some_here start mid answer told f p =
    some_of start mid answer (chain_of start).offsets refl (of_file (Unit {0}) (seek_to_image start 0) answer start mid told f) p

-- ---- the list of no pages

-- the chain is that of the file, wherever the decoder is
pub still_none : (start mid : Decoding) → FoundNone start mid → (chain_of mid).offsets ≡ []
still_none start mid f = ap (λ (d : Decoding). (chain_of d).offsets) f.at ∙ f.none

none_listed : (start mid : Decoding) (items : List PageItem) (end : Option TiffError)
    → FoundNone start mid → items ≡ [] → end ≡ (chain_of mid).end
    → record { items = items; end = end } ≡ pages_of start
none_listed start mid items end f n e =
    let all = n ∙ sym (ap (map (item_at start)) f.none) in
    let ends = e ∙ ap (λ (d : Decoding). (chain_of d).end) f.at in
    λ i. record { items = all i; end = ends i }

pub lists_none : (start mid : Decoding) (items : List PageItem)
    (r : Result (Option TiffError) TiffError) → FoundNone start mid → items ≡ []
    → IfOk r (λ end. end ≡ (chain_of mid).end)
    → IfOk r (λ end. record { items = items; end = end } ≡ pages_of start)
lists_none start mid items (Ok end) f n e = none_listed start mid items end f n e
lists_none start mid items (Err x) f n e = tt

-- the state past the end of such a chain is that after no step along it
along_none : (start : Decoding) → (chain_of start).offsets ≡ [] → times_to_end start ≡ 0
along_none start h =
    let end = ends start h in
    ap (λ (ps : List ℕ). times_on (length ps) (chain_of start).end) h ∙ ap (times_on 0) end.1

same_past : (start mid : Decoding) → FoundNone start mid → past_none mid ≡ past_none start
same_past start mid f = ap (λ (d : Decoding). record d.state { pointer = None; more = false }) f.at

ends_at : (start mid new : Decoding) → FoundNone start mid
    → new ≡ record mid { state = (seek_to_image mid 0).next }
    → new ≡ record start { state = state_along start (times_to_end start) }
ends_at start mid new f e =
    e
    ∙ ap (λ (s : State). record mid { state = s }) (past_is mid (still_none start mid f)
    ∙ same_past start mid f ∙ sym (past_is start f.none))
    ∙ ap (λ (d : Decoding). record d { state = (seek_to_image start 0).next }) f.at
    ∙ ap (λ (n : ℕ). record start { state = state_along start n }) (sym (along_none start f.none))

pub stands_none : {X : Type 0} (start mid new : Decoding) (r : Result X TiffError)
    → FoundNone start mid → OnOk r (new ≡ record mid { state = (seek_to_image mid 0).next })
    → OnOk r (new ≡ record start { state = state_along start (times_to_end start) })
stands_none start mid new (Ok x) f e = ends_at start mid new f e
stands_none start mid new (Err x) f e = tt

back_is : (start mid : Decoding) → FoundNone start mid → (rewound mid).state ≡ (rewound start).state
back_is start mid f = ap (λ (d : Decoding). (rewound d).state) f.at

pub way_none : {X : Type 0} (start mid new : Decoding) (r : Result X TiffError)
    → FoundNone start mid → OnErr r (new.state ≡ (rewound mid).state)
    → OnErr r (WasOnItsWay start new.state)
way_none start mid new (Ok x) f e = tt
way_none start mid new (Err x) f e = inr (inr (f.none, e ∙ back_is start mid f))
