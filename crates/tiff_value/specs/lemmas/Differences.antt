-- Differences along a row, undone, are the numbers of the row.
use Rattle.std.proofs.Common.{◌≡◌, ℕ, zero, suc, ◌+◌, ◌-◌, ◌*◌, ◌/◌, ◌%◌, ◌<◌, ◌≤◌, List, get_or, length, refl, ap, ◌∙◌, arith, add-one}
use Rattle.std.specs.Prelude.{sum_by, ◌==◌, false}
use Rattle.std.specs.List.{range_with_len}
use Rattle.std.proofs.lemmas.Bool.{lt-ltb, le-ltb}
use Rattle.std.proofs.lemmas.Bool.Decides.{nat_tests}
use Rattle.std.proofs.lemmas.List.FromFn.{get_or-map-range_with_len}
use Rattle.std.proofs.lemmas.List.Sums.{sum_by_push}
use Rattle.std.proofs.lemmas.Nat.{div-add-mod'}
use Rattle.std.proofs.Math.Nat.{mod-eq_of_lt, mul-le-mul_right, mod-add-mod, add-mod-mod, add-mod_right, mod-lt}
use Rattle.tiff_base.specs.lemmas.Common.{range_more}
use Rattle.tiff_base.specs.declared.tags.Predictor.TheVariants.{Horizontal}
use Rattle.tiff_value.specs.Differences.{stored_difference, differences, predicted_row, restored_number, IsUndone}

-- the sum of the first numbers
abbrev pub total : (ℕ → ℕ) → ℕ → ℕ
total d n = sum_by d (range_with_len 0 n)

pub total_more : (d : ℕ → ℕ) (n : ℕ) → total d (suc n) ≡ total d n + d n
total_more d n =
    let e : 0 + n ≡ n = omega arith in
    ap (sum_by d) (range_more 0 n) ∙ sum_by_push d (range_with_len 0 n) (0 + n)
    ∙ ap (λ (k : ℕ). total d n + d k) e

pub one_total : (d : ℕ → ℕ) → total d (suc zero) ≡ d 0
one_total d = total_more d zero ∙ omega arith

-- the sum of the differences d of x, modulo m, is x
pub undone : (x d : ℕ → ℕ) (m last : ℕ) → ((c : ℕ) → x c < m) → d 0 ≡ x 0
    → ((c : ℕ) → c < last → d (suc c) ≡ (x (suc c) + m - x c) % m)
    → (c : ℕ) → c ≤ last → total d (suc c) % m ≡ x c
undone x d m last b z e zero h = rw (one_total d, z) (mod-eq_of_lt (b 0))
undone x d m last b z e (suc c) h =
    let ih : total d (suc c) % m ≡ x c = undone x d m last b z e c (omega arith) in
    let w : x c + (x (suc c) + m - x c) ≡ x (suc c) + m = omega (arith, b c) in
    rw (total_more d (suc c), ← mod-add-mod, ih, e c (omega arith), add-mod-mod, w, add-mod_right)
    (mod-eq_of_lt (b (suc c)))

pub first_kept : (m l s : ℕ) (row : List ℕ) (i : ℕ) → i < l → i < s
    → stored_difference Horizontal m l s row i ≡ get_or row i 0
first_kept m l s row i a b = rw (mod-eq_of_lt a, lt-ltb i s b) refl

pub later_kept : (m l s : ℕ) (row : List ℕ) (i : ℕ) → i < l → s ≤ i
    → stored_difference Horizontal m l s row i ≡ (get_or row i 0 + m - get_or row (i - s) 0) % m
later_kept m l s row i a b = rw (mod-eq_of_lt a, le-ltb i s b) refl

-- the number at a place of a row of differences
pub difference_at : (m s : ℕ) (row : List ℕ) (i : ℕ) → i < length row
    → get_or (differences Horizontal m (length row) s row) i 0
    ≡ stored_difference Horizontal m (length row) s row i
unfolding differences
difference_at m s row i h =
    get_or-map-range_with_len (stored_difference Horizontal m (length row) s row) 0
    (length row) i i 0 h (omega arith)

pub predicted : (m s : ℕ) (row : List ℕ) → 0 < s → s ≤ length row
    → predicted_row m s row ≡ differences Horizontal m (length row) s row
predicted m s row some whole =
    let z : (s == 0) ≡ false = grind (arith, nat_tests) in
    rw (z, le-ltb (length row) s whole) refl

pub is_undone : IsUndone
is_undone m s row some whole b k h =
    let l = length row in
    let x = λ (c : ℕ). get_or row (c * s + k % s) 0 in
    let d = λ (c : ℕ). get_or (differences Horizontal m l s row) (c * s + k % s) 0 in
    let low : k % s < s = mod-lt k some in
    let whole_k : k / s * s + k % s ≡ k = div-add-mod' k s in
    let within : (c : ℕ) → c ≤ k / s → c * s + k % s < l =
    λ c i. let u : c * s ≤ k / s * s = mul-le-mul_right s i in omega (arith, u, whole_k, h) in
    let z : d 0 ≡ x 0 =
    difference_at m s row (0 * s + k % s) (within 0 (omega arith))
    ∙ first_kept m l s row (0 * s + k % s) (within 0 (omega arith)) (omega (arith, low)) in
    let e : (c : ℕ) → c < k / s → d (suc c) ≡ (x (suc c) + m - x c) % m =
    λ c i.
    let back : (suc c * s + k % s) - s ≡ c * s + k % s = omega arith in
    difference_at m s row (suc c * s + k % s) (within (suc c) (omega (arith, i)))
    ∙ later_kept m l s row (suc c * s + k % s) (within (suc c) (omega (arith, i))) (omega arith)
    ∙ ap (λ (j : ℕ). (x (suc c) + m - get_or row j 0) % m) back in
    let there : k / s * s + k % s ≡ k = omega (arith, whole_k) in
    ap (λ (r : List ℕ). restored_number m s r k) (predicted m s row some whole)
    ∙ ap (λ (n : ℕ). total d n % m) (add-one (k / s))
    ∙ undone x d m (k / s) (λ c. b (c * s + k % s)) z e (k / s) (omega arith)
    ∙ ap (λ (j : ℕ). get_or row j 0) there
