-- A tree of the first offsets of a sequence.
use Rattle.std.proofs.Common.{◌≡◌, ℕ, ◌+◌, ◌<◌, ◌≤◌, List, [], ◌∷◌, ◌++◌, length, get_or, max, Bool, true, false, ◌||◌, cond, refl, ap, sym, ◌∙◌, subst, arith, nat_eq}
use Rattle.std.proofs.Math.Nat.{le-max_left, le-max_right}
use Rattle.std.proofs.lemmas.Bool.Decides.{nat_tests}
use Rattle.std.proofs.lemmas.List.{length-append, take-append-le, take_all}
use Rattle.std.proofs.lemmas.List.Folds.{list_any_more, list_any_none}
use Rattle.std.proofs.lemmas.List.Elements.{All-append, All-cons, All-nil, All-weaker}
use Rattle.std.specs.BTreeMap.{is_at}
use Rattle.std.specs.BTreeSet.{BTreeSet, Updates}
use Rattle.std.specs.List.{All, list_any}
use Rattle.std.specs.Ordering.{nat_cmp, is_eq}
use Rattle.tiff_ifd.specs.Met.{AreMet, HasFirst}

pub none_met : (highest : ℕ) → AreMet [] highest [] 0
none_met highest =
    record { below = All-nil (λ n. n ≤ highest); first = record { within = omega arith; same = λ offset. refl } }

either : (q k : ℕ) (old : Bool) → cond (is_eq (nat_cmp k q)) true old ≡ (old || nat_eq q k)
either q k true = grind (arith, nat_tests)
either q k false = grind (arith, nat_tests)

pub one_filed : (offsets : List ℕ) (old new : BTreeSet ℕ) (count : ℕ)
    → HasFirst offsets old.keys count → count < length offsets
    → Updates nat_cmp old new (get_or offsets count 0) true → HasFirst offsets new.keys (count + 1)
one_filed offsets old new count has more updates = record {
  within = omega (arith, more);
  same =
      λ q. updates.0 q ∙ either q (get_or offsets count 0) (list_any (is_at (nat_cmp q)) old.keys)
      ∙ ap (λ (b : Bool). b || nat_eq q (get_or offsets count 0)) (has.same q)
      ∙ sym (list_any_more (nat_eq q) offsets count 0 more);
}

still_filed : (offsets keys : List ℕ) (count offset : ℕ) → HasFirst offsets keys count
    → HasFirst (offsets ++ offset ∷ []) keys count
still_filed offsets keys count offset has = record {
  within = omega (arith, has.within, length-append offsets (offset ∷ []));
  same =
      λ q. has.same q ∙ ap (list_any (nat_eq q)) (sym (take-append-le count offsets (offset
      ∷ []) has.within));
}

still_below : (offsets : List ℕ) (highest offset : ℕ) → All (λ n. n ≤ highest) offsets
    → All (λ n. n ≤ max highest offset) (offsets ++ offset ∷ [])
still_below offsets highest offset below =
    All-append (λ n. n ≤ max highest offset) offsets (offset ∷ [])
    (All-weaker (λ n. n ≤ highest) (λ n. n ≤ max highest offset) (λ n h. omega (arith, h, le-max_left highest offset)) offsets below)
    (All-cons (λ n. n ≤ max highest offset) offset [] (le-max_right highest offset) (All-nil (λ n. n
    ≤ max highest offset)))

pub one_more : (offsets longer keys : List ℕ) (highest most count offset : ℕ)
    → AreMet offsets highest keys count
    → longer ≡ offsets ++ offset ∷ [] → most ≡ max highest offset → AreMet longer most keys count
one_more offsets longer keys highest most count offset h e m =
    let P : List ℕ → Type 0 = λ xs. AreMet xs most keys count in
    let Q : ℕ → Type 0 = λ n. AreMet (offsets ++ offset ∷ []) n keys count in
    subst P (sym e) (subst Q (sym m) (record { below = still_below offsets highest offset h.below; first = still_filed offsets keys count offset h.first }))

pub above_all : (seen offsets keys : List ℕ) (highest count offset : ℕ) → offsets ≡ seen
    → AreMet offsets highest keys count → highest < offset
    → false ≡ list_any (nat_eq offset) seen
above_all seen offsets keys highest count offset same met above =
    sym (ap (list_any (nat_eq offset)) (sym same)
    ∙ list_any_none (nat_eq offset) offsets (All-weaker (λ n. n ≤ highest) (λ n. nat_eq offset n ≡ false) (λ n h. grind (arith, nat_tests, above, h)) offsets met.below))

pub in_tree : (seen offsets keys : List ℕ) (count offset : ℕ) → offsets ≡ seen
    → HasFirst offsets keys count → count ≡ length offsets
    → list_any (is_at (nat_cmp offset)) keys ≡ list_any (nat_eq offset) seen
in_tree seen offsets keys count offset same has all =
    has.same offset ∙ ap (list_any (nat_eq offset)) (take_all count offsets (omega (arith, all))
    ∙ same)
