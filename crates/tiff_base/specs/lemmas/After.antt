-- The fields after a tag number.
use Rattle.std.proofs.Common.{◌≡◌, ℕ, ◌<◌, ◌≤◌, Bool, true, false, cond, ◌&&◌, T, nat_lt, List, [], ◌∷◌, length, drop, get_or, refl, ap, sym, ◌∙◌, subst, arith}
use Rattle.std.proofs.lemmas.Bool.{le-ltb, lt-ltb, ltb-true, ltb-false}
use Rattle.std.proofs.lemmas.Cmp.{ranked}
use Rattle.std.proofs.lemmas.List.Elements.{All-head, filter_passes}
use Rattle.std.specs.declared.cmp.Ordering.{Ordering}
use Rattle.std.specs.declared.cmp.Ordering.TheVariants.{Less, Equal, Greater}
use Rattle.std.specs.Ordering.{nat_cmp, is_lt}
use Rattle.std.specs.FinMap.{is_sorted}
use Rattle.std.specs.FinMap.Entries.{below_all}
use Rattle.std.specs.List.{All}
use Rattle.tiff_base.specs.Directory.{fields_after}
use Rattle.tiff_base.specs.Field.{Field}

-- ---- the fields after a field

both_true : (a b : Bool) → T (a && b) → T a × T b
both_true true b h = (tt, h)
both_true false b h = absurd h

above : (x k : ℕ) (r : Ordering) → r ≡ nat_cmp x k → T (is_lt r) → x < k
above x k Less e h = ranked x k Less e
above x k Equal e h = absurd h
above x k Greater e h = absurd h

-- fields above a number are all after it, and after each lower number
all_after : (a x : ℕ) (es : List (ℕ × Field)) → T (below_all nat_cmp x es) → a ≤ x
    → fields_after a es ≡ es
all_after a x [] h l = refl
all_after a x (e ∷ es) h l =
    let parts : T (is_lt (nat_cmp x e.0)) × T (below_all nat_cmp x es) =
    both_true (is_lt (nat_cmp x e.0)) (below_all nat_cmp x es) h in
    let over : x < e.0 = above x e.0 (nat_cmp x e.0) refl parts.0 in
    rw (lt-ltb a e.0 (omega arith), all_after a x es parts.1 l) refl

-- after the first of all fields come the others
pub after_head : (es : List (ℕ × Field)) (e : ℕ × Field) → T (is_sorted nat_cmp (e ∷ es))
    → fields_after e.0 (e ∷ es) ≡ es
after_head es e h =
    let parts : T (below_all nat_cmp e.0 es) × T (is_sorted nat_cmp es) =
    both_true (below_all nat_cmp e.0 es) (is_sorted nat_cmp es) h in
    rw (le-ltb e.0 e.0 (omega arith), all_after e.0 e.0 es parts.0 (omega arith)) refl

none_long : (e : ℕ × Field) (rest : List (ℕ × Field)) → [] ≡ e ∷ rest → ⊥
none_long e rest is =
    let l : 0 ≡ length (e ∷ rest) = ap (λ (fs : List (ℕ × Field)). length fs) is in omega arith

-- after the first field that is not skipped come the others
pub after_first : (a : ℕ) (es rest : List (ℕ × Field)) (e : ℕ × Field) → T (is_sorted nat_cmp es)
    → fields_after a es ≡ e ∷ rest → fields_after e.0 es ≡ rest
after_first a [] rest e h is = absurd (none_long e rest is)
after_first a (x ∷ es) rest e h is =
    let parts : T (below_all nat_cmp x.0 es) × T (is_sorted nat_cmp es) =
    both_true (below_all nat_cmp x.0 es) (is_sorted nat_cmp es) h in
    elim (nat_lt a x.0) as (λ b. nat_lt a x.0 ≡ b
    → cond b (x ∷ fields_after a es) (fields_after a es) ≡ e ∷ rest → fields_after e.0 (x ∷ es) ≡ rest) [
      | true ↦ λ p js.
          let under : a < x.0 = ltb-true a x.0 p in
          let same : x ≡ e = ap (λ (fs : List (ℕ × Field)). get_or fs 0 x) js in
          let after : fields_after a es ≡ rest = ap (λ (fs : List (ℕ × Field)). drop 1 fs) js in
          ap (λ (y : ℕ × Field). fields_after y.0 (x ∷ es)) (sym same) ∙ after_head es x h
          ∙ sym (all_after a x.0 es parts.0 (omega arith)) ∙ after
      | false ↦ λ p js.
          let lower : x.0 ≤ a = ltb-false a x.0 p in
          let kept : All (λ (y : ℕ × Field). nat_lt a y.0 ≡ true) (e ∷ rest) =
          subst (λ (fs : List (ℕ × Field)). All (λ (y : ℕ × Field). nat_lt a y.0
          ≡ true) fs) js (filter_passes (λ (y : ℕ × Field). nat_lt a y.0) es) in
          let at : a < e.0 =
          ltb-true a e.0 (All-head (λ (y : ℕ × Field). nat_lt a y.0 ≡ true) e rest kept) in
          rw (le-ltb e.0 x.0 (omega arith)) (after_first a es rest e parts.1 js)
    ] refl is
