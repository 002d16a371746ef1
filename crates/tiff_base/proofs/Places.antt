-- The pair at a place among pairs in ascending number, and the result of an edit at this place.
use Rattle.std.proofs.Common.{◌≡◌, ◌≢◌, ℕ, zero, suc, ◌+◌, ◌<◌, ◌≤◌, true, false, cond, List, [], ◌∷◌, length, drop, get_or, set, Some, None, refl, sym, ap, subst, ◌∙◌, arith, inl, inr}
use Rattle.std.proofs.lemmas.Bool.Decides.{nat_tests}
use Rattle.std.specs.declared.cmp.Ordering.TheVariants.{Less}
use Rattle.std.specs.Cmp.{nat_cmp_total}
use Rattle.std.specs.FinMap.{find, get, contains_key, entries as map_entries, insert as map_insert, remove as map_remove, from_entries, get-insert, get-remove, get-from_entries, same_map, nat_cmp-IsAntisymmetric}
use Rattle.std.specs.List.{AllByRecursion, insert, remove, slice_get}
use Rattle.std.specs.List.Sorted.{IsStrictlySortedBy}
use Rattle.std.specs.Map.{keys_of}
use Rattle.std.specs.Option.{is_some}
use Rattle.tiff_base.specs.declared.tags.«Type».TheVariants.{BYTE}
use Rattle.std.specs.Ordering.{nat_cmp, is_eq}
use Rattle.std.proofs.lemmas.Bool.{cases_lt, le-ltb, lt-ltb}
use Rattle.tiff_base.specs.lemmas.Maps.{entries_of_tree}
use Rattle.tiff_base.proofs.Search.{numbers_ascend}
use Rattle.tiff_base.specs.Directory.{fields_after}
use Rattle.tiff_base.specs.Field.{Field, In, IsEntry}
use Rattle.tiff_base.specs.Place.{IsAscending, IsBehind, IsGapFor, IsPlaceOf, key_at}

abbrev pub Pairs : Type 0
Pairs = List (ℕ × Field)

-- none of the first n pairs has the number
abbrev pub NoneBefore : ℕ → Pairs → ℕ → Type 0
NoneBefore number entries n = (i : ℕ) → i < n → key_at entries i ≢ number

fewer : (number : ℕ) (e : ℕ × Field) (entries : Pairs) (n : ℕ)
    → NoneBefore number (e ∷ entries) (suc n) → NoneBefore number entries n
fewer number e entries n none i l = none (suc i) (omega arith)

-- ---- look-ups

find_there : (number : ℕ) (entries : Pairs) (at : ℕ) (x : ℕ × Field) → at < length entries
    → key_at entries at ≡ number → NoneBefore number entries at
    → find nat_cmp number entries ≡ Some (get_or entries at x).1
find_there number [] at x l same none = absurd (omega arith)
find_there number (e ∷ entries) zero x l same none = grind (arith, nat_tests, same)
find_there number (e ∷ entries) (suc at) x l same none =
    grind (arith, nat_tests, none 0 (omega arith), find_there number entries at x (omega arith) same (fewer number e entries at none))

pub find_none : (number : ℕ) (entries : Pairs) → NoneBefore number entries (length entries)
    → find nat_cmp number entries ≡ None
find_none number [] none = refl
find_none number (e ∷ entries) none =
    grind (arith, nat_tests, none 0 (omega arith), find_none number entries (fewer number e entries (length entries) none))

none_before : (number : ℕ) (entries : Pairs) (at : ℕ) → IsAscending entries
    → IsPlaceOf number entries at → NoneBefore number entries at
none_before number entries at sorted is i l same =
    omega (arith, numbers_ascend entries sorted i at l is.within, is.same, same)

none_at_all : (number : ℕ) (entries : Pairs) (at : ℕ) → IsGapFor number entries at
    → NoneBefore number entries (length entries)
none_at_all number entries at gap i l same =
    grind (arith, gap.smaller_before i, gap.greater_after i)

pub get_at : (number : ℕ) (entries : Pairs) (at : ℕ) (x : ℕ × Field) → IsAscending entries
    → IsPlaceOf number entries at
    → Some (get_or entries at x).1 ≡ get (from_entries {R = nat_cmp} entries) number
get_at number entries at x sorted is =
    sym (get-from_entries nat_cmp_total entries number
    ∙ find_there number entries at x is.within is.same (none_before number entries at sorted is))

pub get_in_gap : (number : ℕ) (entries : Pairs) (at : ℕ) → IsGapFor number entries at
    → None ≡ get (from_entries {R = nat_cmp} entries) number
get_in_gap number entries at gap =
    sym (get-from_entries nat_cmp_total entries number
    ∙ find_none number entries (none_at_all number entries at gap))

-- ---- edits, by look-ups

find_inserted : (number : ℕ) (f : Field) (entries : Pairs) (at : ℕ) → NoneBefore number entries at
    → (q : ℕ)
    → find nat_cmp q (insert entries at (number, f))
    ≡ cond (is_eq (nat_cmp q number)) (Some f) (find nat_cmp q entries)
find_inserted number f entries zero none q = refl
find_inserted number f [] (suc at) none q = refl
find_inserted number f (e ∷ entries) (suc at) none q =
    grind (arith, nat_tests, none 0 (omega arith), find_inserted number f entries at (fewer number e entries at none) q)

find_replaced : (number : ℕ) (f : Field) (entries : Pairs) (at : ℕ) → at < length entries
    → key_at entries at ≡ number → NoneBefore number entries at → (q : ℕ)
    → find nat_cmp q (set entries at (number, f))
    ≡ cond (is_eq (nat_cmp q number)) (Some f) (find nat_cmp q entries)
find_replaced number f [] at l same none q = absurd (omega arith)
find_replaced number f (e ∷ entries) zero l same none q = grind (arith, nat_tests, same)
find_replaced number f (e ∷ entries) (suc at) l same none q =
    grind (arith, nat_tests, none 0 (omega arith), find_replaced number f entries at (omega arith) same (fewer number e entries at none) q)

find_removed : (number : ℕ) (entries : Pairs) (at : ℕ) → at < length entries
    → key_at entries at ≡ number
    → ((i : ℕ) → i < length entries → key_at entries i ≡ number → i ≡ at) → (q : ℕ)
    → find nat_cmp q (remove entries at)
    ≡ cond (is_eq (nat_cmp q number)) None (find nat_cmp q entries)
find_removed number [] at l same once q = absurd (omega arith)
find_removed number (e ∷ entries) zero l same once q =
    let none : find nat_cmp number entries ≡ None =
    find_none number entries (λ i m eq. omega (arith, once (suc i) (omega arith) eq)) in
    grind (arith, nat_tests, same, none, λ (is : q ≡ number). ap (λ k. find nat_cmp k entries) is)
find_removed number (e ∷ entries) (suc at) l same once q =
    grind (
      arith,
      nat_tests,
      λ (is : e.0 ≡ number). once 0 (omega arith) is,
      find_removed number entries at (omega arith) same (λ i m eq. omega (arith, once (suc i) (omega arith) eq)) q,
    )

same_insert : (entries new : Pairs) (number : ℕ) (f : Field)
    → ((q : ℕ) → find nat_cmp q new ≡ cond (is_eq (nat_cmp q number)) (Some f) (find nat_cmp q entries))
    → from_entries {R = nat_cmp} new ≡ map_insert (from_entries entries) number f
same_insert entries new number f finds =
    same_map nat_cmp_total nat_cmp-IsAntisymmetric _ _
    (λ q. get-from_entries nat_cmp_total new q ∙ finds q
    ∙ ap (cond (is_eq (nat_cmp q number)) (Some f)) (sym (get-from_entries nat_cmp_total entries q))
    ∙ sym (get-insert nat_cmp_total (from_entries entries) number f q))

pub inserted_in_gap : (number : ℕ) (f : Field) (entries : Pairs) (at : ℕ)
    → IsGapFor number entries at
    → from_entries {R = nat_cmp} (insert entries at (number, f))
    ≡ map_insert (from_entries entries) number f
inserted_in_gap number f entries at gap =
    same_insert entries (insert entries at (number, f)) number f
    (find_inserted number f entries at (λ i l. none_at_all number entries at gap i (omega (arith, gap.within))))

pub replaced_at : (number : ℕ) (f : Field) (entries : Pairs) (at : ℕ) → IsAscending entries
    → IsPlaceOf number entries at
    → from_entries {R = nat_cmp} (set entries at (number, f))
    ≡ map_insert (from_entries entries) number f
replaced_at number f entries at sorted is =
    same_insert entries (set entries at (number, f)) number f
    (find_replaced number f entries at is.within is.same (none_before number entries at sorted is))

once : (number : ℕ) (entries : Pairs) (at : ℕ) → IsAscending entries → IsPlaceOf number entries at
    → (i : ℕ) → i < length entries → key_at entries i ≡ number → i ≡ at
once number entries at sorted is i l same =
    grind (arith, is.within, is.same, same, numbers_ascend entries sorted i at, numbers_ascend entries sorted at i)

pub removed_at : (number : ℕ) (entries : Pairs) (at : ℕ) → IsAscending entries
    → IsPlaceOf number entries at
    → from_entries {R = nat_cmp} (remove entries at) ≡ map_remove (from_entries entries) number
removed_at number entries at sorted is =
    same_map nat_cmp_total nat_cmp-IsAntisymmetric _ _
    (λ q. get-from_entries nat_cmp_total (remove entries at) q
    ∙ find_removed number entries at is.within is.same (once number entries at sorted is) q
    ∙ ap (cond (is_eq (nat_cmp q number)) None) (sym (get-from_entries nat_cmp_total entries q))
    ∙ sym (get-remove nat_cmp_total (from_entries entries) number q))

pub removed_in_gap : (number : ℕ) (entries : Pairs) (at : ℕ) → IsGapFor number entries at
    → from_entries {R = nat_cmp} entries ≡ map_remove (from_entries entries) number
removed_in_gap number entries at gap =
    let none : find nat_cmp number entries ≡ None =
    find_none number entries (none_at_all number entries at gap) in
    same_map nat_cmp_total nat_cmp-IsAntisymmetric _ _
    (λ q. get-from_entries nat_cmp_total entries q
    ∙ grind (arith, nat_tests, none, λ (is : q ≡ number). ap (λ k. find nat_cmp k entries) is)
    ∙ ap (cond (is_eq (nat_cmp q number)) None) (sym (get-from_entries nat_cmp_total entries q))
    ∙ sym (get-remove nat_cmp_total (from_entries entries) number q))

-- ---- the order is kept

less : (a b : ℕ) → a < b → nat_cmp a b ≡ Less
less a b l = grind (arith, nat_tests)

all_inserted : (P : ℕ → Type 0) (xs : List ℕ) (at k : ℕ) → P k → AllByRecursion P xs
    → AllByRecursion P (insert xs at k)
all_inserted P xs zero k p all = (p, all)
all_inserted P [] (suc at) k p all = (p, all)
all_inserted P (x ∷ xs) (suc at) k p all = (all.0, all_inserted P xs at k p all.1)

all_removed : (P : ℕ → Type 0) (xs : List ℕ) (at : ℕ) → AllByRecursion P xs
    → AllByRecursion P (remove xs at)
all_removed P [] zero all = all
all_removed P [] (suc at) all = all
all_removed P (x ∷ xs) zero all = all.1
all_removed P (x ∷ xs) (suc at) all = (all.0, all_removed P xs at all.1)

all_below : (k : ℕ) (xs : List ℕ) → ((i : ℕ) → i < length xs → k < get_or xs i 0)
    → AllByRecursion (λ y. nat_cmp k y ≡ Less) xs
all_below k [] h = tt
all_below k (x ∷ xs) h =
    (less k x (h 0 (omega arith)), all_below k xs (λ i l. h (suc i) (omega arith)))

sorted_inserted : (xs : List ℕ) (at k : ℕ) → IsStrictlySortedBy nat_cmp xs → at ≤ length xs
    → ((i : ℕ) → i < at → get_or xs i 0 < k)
    → ((i : ℕ) → at ≤ i → i < length xs → k < get_or xs i 0)
    → IsStrictlySortedBy nat_cmp (insert xs at k)
unfolding IsStrictlySortedBy
sorted_inserted xs zero k sorted w below above =
    (all_below k xs (λ i l. above i (omega arith) l), sorted)
sorted_inserted [] (suc at) k sorted w below above = absurd (omega arith)
sorted_inserted (x ∷ xs) (suc at) k sorted w below above = (
  all_inserted (λ y. nat_cmp x y ≡ Less) xs at k (less x k (below 0 (omega arith))) sorted.0,
  sorted_inserted xs at k sorted.1 (omega arith) (λ i l. below (suc i) (omega arith))
      (λ i l m. above (suc i) (omega arith) (omega arith)),
)

sorted_removed : (xs : List ℕ) (at : ℕ) → IsStrictlySortedBy nat_cmp xs
    → IsStrictlySortedBy nat_cmp (remove xs at)
unfolding IsStrictlySortedBy
sorted_removed [] zero sorted = sorted
sorted_removed [] (suc at) sorted = sorted
sorted_removed (x ∷ xs) zero sorted = sorted.1
sorted_removed (x ∷ xs) (suc at) sorted =
    (all_removed (λ y. nat_cmp x y ≡ Less) xs at sorted.0, sorted_removed xs at sorted.1)

keys_inserted : (entries : Pairs) (at : ℕ) (e : ℕ × Field)
    → keys_of (insert entries at e) ≡ insert (keys_of entries) at e.0
keys_inserted entries zero e = refl
keys_inserted [] (suc at) e = refl
keys_inserted (x ∷ entries) (suc at) e = ap (λ ks. x.0 ∷ ks) (keys_inserted entries at e)

keys_removed : (entries : Pairs) (at : ℕ)
    → keys_of (remove entries at) ≡ remove (keys_of entries) at
keys_removed [] zero = refl
keys_removed [] (suc at) = refl
keys_removed (x ∷ entries) zero = refl
keys_removed (x ∷ entries) (suc at) = ap (λ ks. x.0 ∷ ks) (keys_removed entries at)

keys_replaced : (entries : Pairs) (at number : ℕ) (f : Field) → at < length entries
    → key_at entries at ≡ number → keys_of (set entries at (number, f)) ≡ keys_of entries
keys_replaced [] at number f l same = absurd (omega arith)
keys_replaced (x ∷ entries) zero number f l same = ap (λ k. k ∷ keys_of entries) (sym same)
keys_replaced (x ∷ entries) (suc at) number f l same =
    ap (λ ks. x.0 ∷ ks) (keys_replaced entries at number f (omega arith) same)

long : (entries : Pairs) → length (keys_of entries) ≡ length entries
long [] = refl
long (e ∷ entries) = ap suc (long entries)

pub ascending_inserted : (number : ℕ) (f : Field) (entries : Pairs) (at : ℕ) → IsAscending entries
    → IsGapFor number entries at → IsAscending (insert entries at (number, f))
ascending_inserted number f entries at sorted gap =
    subst (λ (ks : List ℕ). IsStrictlySortedBy nat_cmp ks) (sym (keys_inserted entries at (number, f)))
    (sorted_inserted (keys_of entries) at number sorted (omega (arith, long entries, gap.within)) gap.smaller_before
    (λ i l m. gap.greater_after i l (omega (arith, m, long entries))))

pub ascending_replaced : (number : ℕ) (f : Field) (entries : Pairs) (at : ℕ) → IsAscending entries
    → IsPlaceOf number entries at → IsAscending (set entries at (number, f))
ascending_replaced number f entries at sorted is =
    subst (λ (ks : List ℕ). IsStrictlySortedBy nat_cmp ks) (sym (keys_replaced entries at number f is.within is.same)) sorted

pub ascending_removed : (entries : Pairs) (at : ℕ) → IsAscending entries
    → IsAscending (remove entries at)
ascending_removed entries at sorted =
    subst (λ (ks : List ℕ). IsStrictlySortedBy nat_cmp ks) (sym (keys_removed entries at))
    (sorted_removed (keys_of entries) at sorted)

-- ---- each pair remains an entry

abbrev pub Fit : Pairs → Type 0
Fit entries = (e : ℕ × Field) → In e entries → IsEntry e

pub fit_inserted : (x : ℕ × Field) (entries : Pairs) (at : ℕ) → IsEntry x → Fit entries
    → Fit (insert entries at x)
fit_inserted x entries zero new all e (inl h) = subst IsEntry (sym h) new
fit_inserted x entries zero new all e (inr h) = all e h
fit_inserted x [] (suc at) new all e (inl h) = subst IsEntry (sym h) new
fit_inserted x [] (suc at) new all e (inr h) = absurd h
fit_inserted x (y ∷ entries) (suc at) new all e (inl h) = all e (inl h)
fit_inserted x (y ∷ entries) (suc at) new all e (inr h) =
    fit_inserted x entries at new (λ f g. all f (inr g)) e h

pub fit_replaced : (x : ℕ × Field) (entries : Pairs) (at : ℕ) → IsEntry x → Fit entries
    → Fit (set entries at x)
fit_replaced x [] at new all e h = absurd h
fit_replaced x (y ∷ entries) zero new all e (inl h) = subst IsEntry (sym h) new
fit_replaced x (y ∷ entries) zero new all e (inr h) = all e (inr h)
fit_replaced x (y ∷ entries) (suc at) new all e (inl h) = all e (inl h)
fit_replaced x (y ∷ entries) (suc at) new all e (inr h) =
    fit_replaced x entries at new (λ f g. all f (inr g)) e h

pub fit_removed : (entries : Pairs) (at : ℕ) → Fit entries → Fit (remove entries at)
fit_removed [] zero all e h = absurd h
fit_removed [] (suc at) all e h = absurd h
fit_removed (y ∷ entries) zero all e h = all e (inr h)
fit_removed (y ∷ entries) (suc at) all e (inl h) = all e (inl h)
fit_removed (y ∷ entries) (suc at) all e (inr h) = fit_removed entries at (λ f g. all f (inr g)) e h

pub contains_at : (number : ℕ) (entries : Pairs) (at : ℕ) → IsAscending entries
    → IsPlaceOf number entries at → true ≡ contains_key (from_entries {R = nat_cmp} entries) number
contains_at number entries at sorted is =
    ap is_some (get_at number entries at (0, record { field_type = BYTE; count = 0; value = [] }) sorted is)

pub contains_in_gap : (number : ℕ) (entries : Pairs) (at : ℕ) → IsGapFor number entries at
    → false ≡ contains_key (from_entries {R = nat_cmp} entries) number
contains_in_gap number entries at gap = ap is_some (get_in_gap number entries at gap)

pub none_ascends : IsAscending [] × Fit []
unfolding IsStrictlySortedBy
none_ascends = (tt, λ e h. absurd h)

-- ---- whole edits: the order is kept, and each pair remains an entry

pub insert_keeps : (number : ℕ) (f : Field) (entries : Pairs) (at : ℕ) → IsGapFor number entries at
    → IsEntry (number, f) → IsAscending entries × Fit entries
    → IsAscending (insert entries at (number, f)) × Fit (insert entries at (number, f))
insert_keeps number f entries at gap new both =
    (ascending_inserted number f entries at both.0 gap, fit_inserted (number, f) entries at new both.1)

pub replace_keeps : (number : ℕ) (f : Field) (entries : Pairs) (at : ℕ)
    → IsPlaceOf number entries at → IsEntry (number, f) → IsAscending entries × Fit entries
    → IsAscending (set entries at (number, f)) × Fit (set entries at (number, f))
replace_keeps number f entries at is new both =
    (ascending_replaced number f entries at both.0 is, fit_replaced (number, f) entries at new both.1)

pub remove_keeps : (entries : Pairs) (at : ℕ) → IsAscending entries × Fit entries
    → IsAscending (remove entries at) × Fit (remove entries at)
remove_keeps entries at both = (ascending_removed entries at both.0, fit_removed entries at both.1)

-- ---- the pairs after a number

pub behind_place : (number : ℕ) (entries : Pairs) (at : ℕ) → IsAscending entries
    → IsPlaceOf number entries at → IsBehind number entries (at + 1)
behind_place number entries at sorted is = record {
  within = omega (arith, is.within);
  passed = λ i l. elim (cases_lt i at) [
    | inl below ↦ omega (arith, numbers_ascend entries sorted i at below is.within, is.same)
    | inr above ↦ let e : i ≡ at =
        omega (arith, l, above) in omega (arith, ap (key_at entries) e, is.same)
  ];
  greater =
      λ i l m. omega (arith, numbers_ascend entries sorted at i (omega (arith, l)) m, is.same);
}

pub behind_gap : (number : ℕ) (entries : Pairs) (at : ℕ) → IsGapFor number entries at
    → IsBehind number entries at
behind_gap number entries at gap = record {
  within = gap.within;
  passed = λ i l. omega (arith, gap.smaller_before i l);
  greater = gap.greater_after;
}

rest_of : (number : ℕ) (entries : Pairs) (at : ℕ) → IsBehind number entries at
    → fields_after number entries ≡ drop at entries
rest_of number [] zero h = refl
rest_of number [] (suc at) h = refl
rest_of number (e ∷ entries) zero h =
    rw (lt-ltb number e.0 (h.greater 0 (omega arith) (omega arith)))
    (ap (λ (es : Pairs). e ∷ es) (rest_of number entries zero (record { within = omega arith; passed = λ i l. absurd (omega arith); greater = λ i l m. h.greater (suc i) (omega arith) (omega arith) })))
rest_of number (e ∷ entries) (suc at) h =
    rw (le-ltb number e.0 (h.passed 0 (omega arith)))
    (rest_of number entries at (record { within = omega (arith, h.within); passed = λ i l. h.passed (suc i) (omega arith); greater = λ i l m. h.greater (suc i) (omega arith) (omega arith) }))

first_of_drop : (entries : Pairs) (at : ℕ) → slice_get (drop at entries) 0 ≡ slice_get entries at
first_of_drop [] zero = refl
first_of_drop [] (suc at) = refl
first_of_drop (e ∷ entries) zero = refl
first_of_drop (e ∷ entries) (suc at) = first_of_drop entries at

pub first_behind : (number : ℕ) (entries : Pairs) (at : ℕ) → IsAscending entries
    → IsBehind number entries at
    → slice_get entries at ≡ slice_get (fields_after number (map_entries (from_entries {R = nat_cmp} entries))) 0
first_behind number entries at sorted h =
    sym (first_of_drop entries at)
    ∙ ap (λ (es : Pairs). slice_get es 0) (sym (rest_of number entries at h)
    ∙ ap (fields_after number) (sym (entries_of_tree entries sorted)))

-- ---- the same lemmas for a computed number

pub get_none : (number key : ℕ) (entries : Pairs) (at : ℕ) → key ≡ number → IsGapFor key entries at
    → None ≡ get (from_entries {R = nat_cmp} entries) number
get_none number key entries at e gap =
    subst (λ (k : ℕ). None ≡ get (from_entries {R = nat_cmp} entries) k) e (get_in_gap key entries at gap)

pub contains_none : (number key : ℕ) (entries : Pairs) (at : ℕ) → key ≡ number
    → IsGapFor key entries at → false ≡ contains_key (from_entries {R = nat_cmp} entries) number
contains_none number key entries at e gap =
    subst (λ (k : ℕ). false ≡ contains_key (from_entries {R = nat_cmp} entries) k) e
    (contains_in_gap key entries at gap)

pub removed_none : (number key : ℕ) (entries : Pairs) (at : ℕ) → key ≡ number
    → IsGapFor key entries at
    → from_entries {R = nat_cmp} entries ≡ map_remove (from_entries entries) number
removed_none number key entries at e gap =
    subst (λ (k : ℕ). from_entries {R = nat_cmp} entries
    ≡ map_remove (from_entries entries) k) e (removed_in_gap key entries at gap)

-- ---- the first field after a number

none_from : (entries : Pairs) (at : ℕ) → length entries ≤ at → None ≡ slice_get entries at
none_from [] at h = refl
none_from (e ∷ entries) zero h = absurd (omega arith)
none_from (e ∷ entries) (suc at) h = none_from entries at (omega arith)

some_from : (entries : Pairs) (at : ℕ) (x : ℕ × Field) → at < length entries
    → Some (get_or entries at x) ≡ slice_get entries at
some_from [] at x h = absurd (omega arith)
some_from (e ∷ entries) zero x h = refl
some_from (e ∷ entries) (suc at) x h = some_from entries at x (omega arith)

pub none_behind : (number : ℕ) (entries : Pairs) (at : ℕ) → IsAscending entries
    → IsBehind number entries at → length entries ≤ at
    → None ≡ slice_get (fields_after number (map_entries (from_entries {R = nat_cmp} entries))) 0
none_behind number entries at sorted h past =
    none_from entries at past ∙ first_behind number entries at sorted h

pub some_behind : (number : ℕ) (entries : Pairs) (at : ℕ) (x : ℕ × Field) → IsAscending entries
    → IsBehind number entries at → at < length entries
    → Some (get_or entries at x) ≡ slice_get (fields_after number (map_entries (from_entries {R = nat_cmp} entries))) 0
some_behind number entries at x sorted h within =
    some_from entries at x within ∙ first_behind number entries at sorted h

pub removed_here : (number key : ℕ) (entries new : Pairs) (at : ℕ) → key ≡ number
    → IsAscending entries → IsPlaceOf key entries at → new ≡ remove entries at
    → from_entries {R = nat_cmp} new ≡ map_remove (from_entries entries) number
removed_here number key entries new at e sorted is same =
    ap (λ (es : Pairs). from_entries {R = nat_cmp} es) same ∙ removed_at key entries at sorted is
    ∙ ap (map_remove (from_entries {R = nat_cmp} entries)) e
