-- The facts that each step shows about its call and about the state after it.
use Rattle.std.proofs.Common.{◌≡◌, ◌+◌, ◌≤◌, ℕ, ◌⊎◌, inl, inr, List, [], ◌∷◌, Some, Result, Ok, Err, Vec, map, refl, ap, sym, ◌∙◌, subst, arith}
use Rattle.std.specs.declared.alloc.Global.{Global}
use Rattle.tiff_base.specs.declared.error.TiffError.{TiffError}
use Rattle.tiff_base.specs.declared.error.TiffError.TheVariants.{IoError, OutOfMemory}
use Rattle.tiff_base.specs.declared.io.IoKind.TheVariants.{Device}
use Rattle.tiff_base.specs.declared.tags.Tag.{Tag}
use Rattle.tiff_ifd.specs.declared.value.Value.{Value}
use Rattle.tiff_ifd.specs.PlainValue.{PlainValue}
use Rattle.tiff_decode.specs.declared.script.Call.{Call}
use Rattle.tiff_decode.specs.declared.script.Call.TheVariants as call
use Rattle.tiff_decode.specs.declared.script.Reply.{Reply}
use Rattle.tiff_decode.specs.declared.script.Reply.TheVariants as reply
use Rattle.tiff_decode.specs.Machine.{State, Decoding, Outcome, StandsAt, FollowsBut, FollowsWithoutSourceBut, stays}
use Rattle.tiff_decode.specs.Outcome as outcome
use Rattle.tiff_decode.specs.Failures.{fault_of, device_count, failed_items, failed_list, failures}
use Rattle.tiff_decode.specs.Promise.{Promise, AnswerOf, reads, knows, describes, reads_tags, tells, sets, state_after, promise}
use Rattle.tiff_decode.specs.ReplyView.{ReplyView, sees, sees_nothing, reply_view}
use Rattle.tiff_decode.specs.Step.{Fulfils, Step, ItemIs, ItemsAre, Items}
use Rattle.tiff_decode.specs.Reader.{TagsRead}
use Rattle.tiff_decode.specs.NextState.{IsNamedFault, view_of_result, view_of_item, AreNamed, IsNamedList, IsNamed, LeavesNextState, next_state}

-- The step has at least `count` failed reads. Where `named` holds, `given` holds and the state is
-- `after`; else the state is unchanged.
pub record TellsOf (count : ℕ) (named given : Type 0) (after : State) (old new : Decoding) : Type 0 where
  pub file : new ≡ record old { failures = new.failures; state = new.state }
  pub failed : old.failures + count ≤ new.failures
  pub next : named → given × (new.state ≡ after)
  pub stays : (named → ⊥) → new.state ≡ old.state

-- a result shows its outcome
abbrev pub IsTold : {X Y : Type 0} → (X → Y) → Outcome Y → Result X TiffError → Decoding → Decoding
    → Type 0
IsTold view o r old new =
    TellsOf (device_count (fault_of r)) (IsNamedFault (fault_of r)) (view_of_result view r
    ≡ o.answer) o.next old new

at_state : (state : State) (old new : Decoding) → StandsAt state old new → new.state ≡ state
at_state state old new a = ap (λ (d : Decoding). d.state) a.stands

at_file : (state : State) (old new : Decoding) → StandsAt state old new
    → new ≡ record old { failures = new.failures; state = new.state }
at_file state old new a =
    a.stands ∙ ap (λ (s : State). record old { failures = new.failures; state = s })
    (sym (at_state state old new a))

here_state : (state : State) (old new : Decoding) → new ≡ record old { state = state }
    → new.state ≡ state
here_state state old new p = ap (λ (d : Decoding). d.state) p

here_count : (state : State) (old new : Decoding) → new ≡ record old { state = state }
    → new.failures ≡ old.failures
here_count state old new p = ap (λ (d : Decoding). d.failures) p

here_file : (state : State) (old new : Decoding) → new ≡ record old { state = state }
    → new ≡ record old { failures = new.failures; state = new.state }
here_file state old new p =
    p ∙ (λ i. record old { failures = sym (here_count state old new p) i; state = sym (here_state state old new p) i })

-- ---- results

-- the result of the outcome
told_so : (given : Type 0) (next : State) (old new : Decoding) → given
    → new ≡ record old { state = next } → TellsOf 0 (Unit {0}) given next old new
told_so given next old new g p = record {
  file = here_file next old new p;
  failed = omega (arith, here_count next old new p);
  next = λ _. (g, here_state next old new p);
  stays = λ no. absurd (no tt);
}

-- out of memory
told_wanting : (given : Type 0) (next : State) (old new : Decoding)
    → new ≡ record old { state = old.state } → TellsOf 0 ⊥ given next old new
told_wanting given next old new p = record {
  file = here_file old.state old new p;
  failed = omega (arith, here_count old.state old new p);
  next = λ no. absurd no;
  stays = λ _. here_state old.state old new p;
}

-- a read that failed
told_failed : (given : Type 0) (next : State) (old new : Decoding) → old.failures + 1 ≤ new.failures
    → StandsAt old.state old new → TellsOf 1 ⊥ given next old new
told_failed given next old new grew a = record {
  file = at_file old.state old new a;
  failed = grew;
  next = λ no. absurd no;
  stays = λ _. at_state old.state old new a;
}

pub told : {X Y : Type 0} (wanting : Type 0) (view : X → Y) (o : Outcome Y) (r : Result X TiffError)
    (old new : Decoding)
    → FollowsBut wanting view o r old new → IsTold view o r old new
told wanting view o (Err (IoError Device)) old new h =
    let f = h.device refl in told_failed _ o.next old new (omega (arith, f.grew)) f.at
told wanting view o (Err OutOfMemory) old new h = told_wanting _ o.next old new (h.memory refl).1
told wanting view o (Err e) old new h =
    let g = h.other refl in told_so _ o.next old new (sym g.answer) g.at
told wanting view o r old new h = told_so _ o.next old new (sym h.answer) h.at

told_here : {X Y : Type 0} (wanting : Type 0) (view : X → Y) (o : Outcome Y)
    (r : Result X TiffError) (old new : Decoding)
    → (o.next ≡ old.state ⊎ (wanting → ⊥)) → FollowsWithoutSourceBut wanting view o r old new
    → IsTold view o r old new
told_here wanting view o (Err (IoError Device)) old new s h = absurd (h.0.device refl)
told_here wanting view o (Err OutOfMemory) old new (inl same) h =
    told_wanting _ o.next old new (h.1 ∙ ap (λ (s : State). record old { state = s }) same)
told_here wanting view o (Err OutOfMemory) old new (inr never) h = absurd (never (h.0.memory refl))
told_here wanting view o (Err e) old new s h = told_so _ o.next old new (sym (h.0.other refl)) h.1
told_here wanting view o r old new s h = told_so _ o.next old new (sym h.0) h.1

-- a read of tags, which leaves the state unchanged
none_failed : (old new : Decoding) → new ≡ record old { failures = new.failures }
    → new.failures ≡ old.failures → new ≡ record old { state = old.state }
none_failed old new p q = p ∙ ap (λ (n : ℕ). record old { failures = n }) q

told_of_tags : {X Y : Type 0} (wanting : Type 0) (view : X → Y) (o : Outcome Y)
    (r : Result X TiffError) (old new : Decoding) → TagsRead wanting view o r old new
    → IsTold view (stays old o.answer) r old new
told_of_tags wanting view o (Err (IoError Device)) old new h =
    told_failed _ old.state old new (omega (arith, h.answer.device refl)) (record { stands = h.state; failures = h.failures })
told_of_tags wanting view o (Err OutOfMemory) old new h =
    told_wanting _ old.state old new (none_failed old new h.state (h.swallowed refl))
told_of_tags wanting view o (Err e) old new h =
    told_so _ old.state old new (sym (h.answer.other refl)) (none_failed old new h.state (h.swallowed refl))
told_of_tags wanting view o r old new h =
    told_so _ old.state old new (sym h.answer) (none_failed old new h.state h.swallowed)

-- ---- promises

-- the promised result
abbrev pub answer_of : (p : Promise) → Result (AnswerOf p) TiffError
answer_of (reads wanting o) = o.answer
answer_of (knows o) = o.answer
answer_of (describes wanting answer) = answer
answer_of (reads_tags wanting o) = o.answer
answer_of (tells y) = Ok y
answer_of (sets s) = Ok tt

-- the reply shows this result
abbrev pub IsAnswer : {Y : Type 0} → ReplyView Y → Result Y TiffError → Type 0
IsAnswer (sees view r) answer = view_of_result view r ≡ answer
IsAnswer sees_nothing answer = ⊥

-- the count of failed reads that a reply shows, and whether it is neither out of memory nor an
-- error of the device; anything where the reply shows nothing
abbrev count_in : {Y : Type 0} → ReplyView Y → ℕ → ℕ
count_in (sees view r) count = device_count (fault_of r)
count_in sees_nothing count = count

abbrev named_in : {Y : Type 0} → ReplyView Y → Type 0 → Type 0
named_in (sees view r) named = IsNamedFault (fault_of r)
named_in sees_nothing named = named

told_by : (p : Promise) (s : ReplyView (AnswerOf p)) (count : ℕ) (named : Type 0)
    (old new : Decoding) → Fulfils p s old new
    → TellsOf (count_in s count) (named_in s named) (IsAnswer s (answer_of p)) (state_after old p) old new
told_by (reads wanting o) (sees view r) count named old new h = told wanting view o r old new h
told_by (knows o) (sees view r) count named old new h =
    told_here ⊥ view o r old new (inr (λ no. no)) h
told_by (describes wanting answer) (sees view r) count named old new h =
    told_here wanting view (stays old answer) r old new (inl refl) h
told_by (reads_tags wanting o) (sees view r) count named old new h =
    told_of_tags wanting view o r old new h
told_by (tells y) (sees view (Ok x)) count named old new h =
    told_so _ old.state old new (ap (λ z. Ok z) h.0) h.1
told_by (sets s) (sees view (Ok x)) count named old new h = told_so _ s old new refl h
told_by p s count named old new h = absurd h

-- ---- the items of a page's tags

item_grows : (given : Result (Tag × PlainValue) TiffError) (x : Result (Tag × Value) TiffError)
    (before after : ℕ) → ItemIs given x before after → before + device_count (fault_of x) ≤ after
item_grows given (Err (IoError Device)) before after h = omega (arith, h.device refl)
item_grows given (Err OutOfMemory) before after h = omega (arith, h.memory refl)
item_grows given (Err e) before after h = omega (arith, (h.other refl).1)
item_grows given x before after h = omega (arith, h.1)

items_grow : (gs : List (Result (Tag × PlainValue) TiffError))
    (xs : List (Result (Tag × Value) TiffError)) (before after : ℕ) → ItemsAre gs xs before after
    → before + failed_items xs ≤ after
items_grow [] [] before after h = omega (arith, h)
items_grow [] (x ∷ xs) before after h = absurd h
items_grow (g ∷ gs) [] before after h = absurd h
items_grow (g ∷ gs) (x ∷ xs) before after h =
    omega (arith, item_grows g x before h.0 h.1, items_grow gs xs h.0 after h.2)

item_told : (given : Result (Tag × PlainValue) TiffError) (x : Result (Tag × Value) TiffError)
    (before after : ℕ) → ItemIs given x before after → IsNamedFault (fault_of x)
    → view_of_item x ≡ given
item_told given (Err (IoError Device)) before after h n = absurd n
item_told given (Err OutOfMemory) before after h n = absurd n
item_told given (Err e) before after h n = sym (h.other refl).0
item_told given x before after h n = sym h.0

items_told : (gs : List (Result (Tag × PlainValue) TiffError))
    (xs : List (Result (Tag × Value) TiffError)) (before after : ℕ) → ItemsAre gs xs before after
    → AreNamed xs → map view_of_item xs ≡ gs
items_told [] [] before after h n = refl
items_told [] (x ∷ xs) before after h n = absurd h
items_told (g ∷ gs) [] before after h n = absurd h
items_told (g ∷ gs) (Ok x ∷ xs) before after h n =
    λ i. item_told g (Ok x) before h.0 h.1 tt i ∷ items_told gs xs h.0 after h.2 n i
items_told (g ∷ gs) (Err e ∷ xs) before after h n =
    λ i. item_told g (Err e) before h.0 h.1 n.0 i ∷ items_told gs xs h.0 after h.2 n.1 i

no_wanting : (e : TiffError) → e ≡ OutOfMemory → IsNamedFault (Some e) → ⊥
no_wanting e p n = (let P : TiffError → Type 0 = λ x. IsNamedFault (Some x) in subst P p n)

list_told : (given : List (Result (Tag × PlainValue) TiffError))
    (r : Result (Vec (Result (Tag × Value) TiffError) Global) TiffError) (old new : Decoding)
    → Items given r old new
    → TellsOf (failed_list r) (IsNamedList r) (view_of_result (λ v. map view_of_item v.items) r
    ≡ Ok given) old.state old new
list_told given (Ok v) old new h = record {
  file = at_file old.state old new h.0;
  failed = items_grow given v.items old.failures new.failures h.1;
  next =
      λ n. (ap (λ xs. Ok xs) (items_told given v.items old.failures new.failures h.1 n), at_state old.state old new h.0);
  stays = λ _. at_state old.state old new h.0;
}
list_told given (Err e) old new h = record {
  file = at_file old.state old new h.1;
  failed =
      (let count : device_count (Some e) ≡ 0 = ap (λ x. device_count (Some x)) h.0 in omega (arith, h.1.failures, count));
  next = λ n. absurd (no_wanting e h.0 n);
  stays = λ _. at_state old.state old new h.1;
}

-- ---- each step keeps the promise of its call

-- The facts that a step shows. The clause of one reply repeats the last clause. With it, the last
-- clause is checked for each call with each reply, where both tables compute.
pub called : (old : Decoding) (which : Call) (reply : Reply) (new : Decoding)
    → Step old which reply new
    → TellsOf (failures reply) (IsNamed reply) (IsAnswer (reply_view old which reply) (answer_of (promise old which))) (next_state old which) old new
called old call.TagIter (reply.TagIter r) new h = list_told (outcome.tag_iter old) r old new h
called old (call.FindTagBuf tag) (reply.FindTagBuf r b) new h =
    told_by (promise old (call.FindTagBuf tag)) (reply_view old (call.FindTagBuf tag) (reply.FindTagBuf r b)) 0 ⊥ old new h.0
called old which reply.SetLimits new h =
    told_by (promise old which) (reply_view old which reply.SetLimits) (failures reply.SetLimits)
    (IsNamed reply.SetLimits) old new h
called old which reply new h =
    told_by (promise old which) (reply_view old which reply) (failures reply) (IsNamed reply) old new h

pub along : (old : Decoding) (which : Call) (reply : Reply) (new : Decoding)
    → Step old which reply new → LeavesNextState old which reply new
along old which reply new h =
    let t = called old which reply new h in
    record { file = t.file; failed = t.failed; next = λ n. (t.next n).1; stays = t.stays }
