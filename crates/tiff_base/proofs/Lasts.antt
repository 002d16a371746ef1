-- Pairs in any order, of which the last pair of each number remains.
use Rattle.std.proofs.Common.{◌≡◌, ℕ, suc, ◌+◌, ◌-◌, ◌<◌, Bool, true, false, cond, List, [], ◌∷◌, ◌++◌, None, length, get_or, reverse, nat_eq, refl, sym, ap, subst, ◌∙◌, arith, inl, inr}
use Rattle.std.proofs.lemmas.Bool.{cases_lt}
use Rattle.std.proofs.lemmas.Bool.Decides.{nat_tests}
use Rattle.std.proofs.lemmas.List.{length-map, get_or-map, get_or_default, reverse-append}
use Rattle.std.proofs.lemmas.List.Kept.{IsStrictlySortedBy-dedup}
use Rattle.std.proofs.lemmas.List.Filters.{All-dedup}
use Rattle.std.proofs.lemmas.List.Elements.{All-head, All-tail}
use Rattle.std.proofs.lemmas.List.Sorted.{All-permutation}
use Rattle.std.proofs.lemmas.Map.Keys.{sorted_from_strictly_increasing}
use Rattle.std.specs.Cmp.{nat_cmp_total, unsigned_ties}
use Rattle.std.specs.FinMap.{find, from_entries, get-from_entries, same_map, nat_cmp-IsAntisymmetric}
use Rattle.std.specs.List.{All, filter, dedup, dedup_from}
use Rattle.std.specs.List.Sorted.{IsPermutation, IsSorted, IsSortedByKey, IsStableByKey, IsStrictlySortedBy, ties}
use Rattle.std.specs.Map.{keys_of}
use Rattle.std.specs.Ordering.{nat_cmp, is_lt}
use Rattle.tiff_base.specs.declared.tags.«Type».TheVariants.{BYTE}
use Rattle.tiff_base.specs.Directory.{last_of_each}
use Rattle.tiff_base.specs.Field.{Field, In, IsEntry}
use Rattle.tiff_base.specs.Place.{IsAscending, key_at}
use Rattle.tiff_base.proofs.Places.{find_none}
use Rattle.tiff_base.proofs.Search.{numbers_ascend}

abbrev Pairs : Type 0
Pairs = List (ℕ × Field)

-- the number of a pair
abbrev pub key : ℕ × Field → ℕ
key e = e.0

-- the two pairs have one number
abbrev pub same : ℕ × Field → ℕ × Field → Bool
same a b = nat_eq a.0 b.0

-- ---- look-ups

abbrev below : ℕ × Field → ℕ × Field → Bool
below a b = is_lt (nat_cmp a.0 b.0)

find_tied : (q : ℕ) (f : Field) (es : Pairs)
    → find nat_cmp q (filter (ties below (q, f)) es) ≡ find nat_cmp q es
find_tied q f [] = refl
find_tied q f (e ∷ es) = grind (arith, nat_tests, find_tied q f es)

-- a stable sort does not change what a look-up finds
find_sorted : (q : ℕ) (rs ss : Pairs) → IsStableByKey key nat_cmp rs ss
    → find nat_cmp q ss ≡ find nat_cmp q rs
find_sorted q rs ss stable =
    let f : Field = record { field_type = BYTE; count = 0; value = [] } in
    sym (find_tied q f ss) ∙ ap (find nat_cmp q) (stable (q, f)) ∙ find_tied q f rs

find_deduped_from : (q : ℕ) (k : ℕ × Field) (es : Pairs)
    → find nat_cmp q (dedup_from same k es) ≡ find nat_cmp q (k ∷ es)
find_deduped_from q k [] = refl
find_deduped_from q k (e ∷ es) =
    grind (arith, nat_tests, find_deduped_from q k es, find_deduped_from q e es)

find_deduped : (q : ℕ) (es : Pairs) → find nat_cmp q (dedup same es) ≡ find nat_cmp q es
find_deduped q [] = refl
find_deduped q (e ∷ es) = find_deduped_from q e es

pub last_left : (xs rs ss ys : Pairs) → rs ≡ reverse xs → IsStableByKey key nat_cmp rs ss
    → ys ≡ dedup same ss → from_entries {R = nat_cmp} ys ≡ last_of_each xs
unfolding last_of_each
last_left xs rs ss ys turned stable left =
    same_map nat_cmp_total nat_cmp-IsAntisymmetric _ _
    (λ q. get-from_entries nat_cmp_total ys q
    ∙ ap (find nat_cmp q) left
    ∙ find_deduped q ss
    ∙ find_sorted q rs ss stable
    ∙ ap (find nat_cmp q) turned
    ∙ sym (get-from_entries nat_cmp_total (reverse xs) q))

-- ---- the order

keys_deduped_from : (k : ℕ × Field) (es : Pairs)
    → keys_of (dedup_from same k es) ≡ dedup_from nat_eq k.0 (keys_of es)
keys_deduped_from k [] = refl
keys_deduped_from k (e ∷ es) =
    elim (nat_eq e.0 k.0) as (λ b. keys_of (cond b (dedup_from same k es) (k
    ∷ dedup_from same e es)) ≡ cond b (dedup_from nat_eq k.0 (keys_of es)) (k.0 ∷ dedup_from nat_eq e.0 (keys_of es))) [
      | true ↦ keys_deduped_from k es
      | false ↦ ap (λ ks. k.0 ∷ ks) (keys_deduped_from e es)
    ]

keys_deduped : (es : Pairs) → keys_of (dedup same es) ≡ dedup nat_eq (keys_of es)
keys_deduped [] = refl
keys_deduped (e ∷ es) = keys_deduped_from e es

number_is : (es : Pairs) (k : ℕ) (x : ℕ × Field) → k < length es → key_at es k ≡ (get_or es k x).0
number_is es k x l = get_or-map (λ (e : ℕ × Field). e.0) es k x 0 l

numbers_sorted : (ss : Pairs) → IsSortedByKey key nat_cmp ss → IsSorted nat_cmp (keys_of ss)
numbers_sorted ss sorted k d low high =
    let x : ℕ × Field = (d, record { field_type = BYTE; count = 0; value = [] }) in
    let within : k + 1 < length ss = omega (arith, high, length-map ss (λ (e : ℕ × Field). e.0)) in
    rw (get_or-map (λ (e : ℕ × Field). e.0) ss k x d (omega (arith, within)), get_or-map (λ (e : ℕ × Field). e.0) ss (k + 1) x d within) (sorted k x low within)

pub sorted_ascends : (ss ys : Pairs) → IsSortedByKey key nat_cmp ss → ys ≡ dedup same ss
    → IsAscending ys
sorted_ascends ss ys sorted left =
    subst (λ (ks : List ℕ). IsStrictlySortedBy nat_cmp ks) (sym (ap keys_of left ∙ keys_deduped ss))
    (IsStrictlySortedBy-dedup nat_cmp_total unsigned_ties (keys_of ss) (numbers_sorted ss sorted))

-- one more number is above the number before it
pub one_step : (es : Pairs) (i : ℕ) (x y : ℕ × Field) → 0 < i → i < length es
    → (get_or es (i - 1) x).0 < (get_or es i y).0
    → ((k : ℕ) → k + 1 < i → key_at es k < key_at es (k + 1)) → (k : ℕ) → k + 1 < i + 1
    → key_at es k < key_at es (k + 1)
one_step es i x y some within up before k l =
    elim (cases_lt (k + 1) i) [
      | inl before_it ↦ before k before_it
      | inr at_it ↦
          let e : k + 1 ≡ i = omega arith in
          let f : k ≡ i - 1 = omega arith in
          omega (arith, up, ap (key_at es) e, ap (key_at es) f, number_is es (i - 1) x (omega arith), number_is es i y within)
    ]

pub steps_ascend : (es : Pairs) → ((k : ℕ) → k + 1 < length es → key_at es k < key_at es (k + 1))
    → IsAscending es
steps_ascend es h =
    sorted_from_strictly_increasing (keys_of es) (λ k l. h k (omega (arith, l, length-map es (λ (e : ℕ × Field). e.0))))

-- ---- pairs that ascend

find_behind : (q : ℕ) (es : Pairs) (e : ℕ × Field) → nat_eq q e.0 ≡ false
    → find nat_cmp q (es ++ e ∷ []) ≡ find nat_cmp q es
find_behind q [] e apart = grind (arith, nat_tests, apart)
find_behind q (x ∷ es) e apart = grind (arith, nat_tests, find_behind q es e apart)

find_last : (q : ℕ) (es : Pairs) (e : ℕ × Field) → find nat_cmp q es ≡ None
    → find nat_cmp q (es ++ e ∷ []) ≡ find nat_cmp q (e ∷ [])
find_last q [] e none = refl
find_last q (x ∷ es) e none = grind (arith, nat_tests, none, find_last q es e)

first_alone : (e : ℕ × Field) (es : Pairs) → IsAscending (e ∷ es) → find nat_cmp e.0 es ≡ None
first_alone e es sorted =
    find_none e.0 es (λ i l eq. omega (arith, numbers_ascend (e ∷ es) sorted 0 (suc i) (omega arith) (omega arith), eq))

find_turned : (q : ℕ) (es : Pairs) → IsAscending es
    → find nat_cmp q (reverse es) ≡ find nat_cmp q es
unfolding IsStrictlySortedBy
find_turned q [] sorted = refl
find_turned q (e ∷ es) sorted =
    let turned : find nat_cmp q (reverse es) ≡ find nat_cmp q es = find_turned q es sorted.1 in
    ap (find nat_cmp q) (reverse-append (e ∷ []) es)
    ∙ grind (arith, nat_tests, turned, find_behind q (reverse es) e, find_last q (reverse es) e, λ (is : q ≡ e.0). subst (λ (n : ℕ). find nat_cmp n es ≡ None) (sym is) (first_alone e es sorted))

pub last_as_they_are : (es : Pairs) → IsAscending es
    → from_entries {R = nat_cmp} es ≡ last_of_each es
unfolding last_of_each
last_as_they_are es sorted =
    same_map nat_cmp_total nat_cmp-IsAntisymmetric _ _
    (λ q. get-from_entries nat_cmp_total es q ∙ sym (find_turned q es sorted)
    ∙ sym (get-from_entries nat_cmp_total (reverse es) q))

-- ---- each pair is an entry

pub each_left : (xs rs ss ys : Pairs) → IsPermutation xs rs → IsPermutation rs ss
    → ys ≡ dedup same ss → All IsEntry xs → All IsEntry ys
each_left xs rs ss ys p q left all =
    subst (λ (es : Pairs). All IsEntry es) (sym left) (All-dedup same IsEntry ss (All-permutation IsEntry rs ss q (All-permutation IsEntry xs rs p all)))

-- one more pair is an entry
pub one_entry : (es : Pairs) (i : ℕ) (x y : ℕ × Field) → i < length es
    → IsEntry ((get_or es i x).0, (get_or es i y).1)
    → ((k : ℕ) (d : ℕ × Field) → k < i → IsEntry (get_or es k d))
    → (k : ℕ) (d : ℕ × Field) → k < i + 1 → IsEntry (get_or es k d)
one_entry es i x y within this before k d l =
    elim (cases_lt k i) [
      | inl before_it ↦ before k d before_it
      | inr at_it ↦
          let e : i ≡ k = omega arith in
          let P : ℕ × Field → ℕ × Field → Type 0 = λ a b. IsEntry (a.0, b.1) in
          subst (λ (j : ℕ). IsEntry (get_or es j d)) e (subst (P (get_or es i d)) (get_or_default es i y d within) (subst (λ (a : ℕ × Field). P a (get_or es i y)) (get_or_default es i x d within) this))
    ]

pub all_are : (es : Pairs) → All IsEntry es → (e : ℕ × Field) → In e es → IsEntry e
all_are [] all e h = absurd h
all_are (x ∷ es) all e (inl h) = subst IsEntry (sym h) (All-head IsEntry x es all)
all_are (x ∷ es) all e (inr h) = all_are es (All-tail IsEntry x es all) e h
