-- Sums of a function over the numbers below a count.
use Rattle.std.proofs.Common.{◌≡◌, ℕ, zero, suc, ◌+◌, ◌-◌, ◌*◌, ◌<◌, ◌≤◌, List, [], ◌∷◌, ◌++◌, refl, ap, sym, ◌∙◌, arith, min}
use Rattle.std.proofs.lemmas.List.FromFn.{map-range_with_len_more}
use Rattle.std.proofs.lemmas.List.Sums.{sum_by_push}
use Rattle.std.proofs.lemmas.List.{map-id}
use Rattle.std.specs.List.{range_with_len, sum_by}

-- f 0 + .. + f (n - 1)
abbrev pub total : ℕ → (ℕ → ℕ) → ℕ
total zero f = 0
total (suc n) f = total n f + f n

pub total_le : (n : ℕ) (f g : ℕ → ℕ) → ((i : ℕ) → i < n → f i ≤ g i) → total n f ≤ total n g
total_le zero f g h = omega arith
total_le (suc n) f g h =
    let rest : total n f ≤ total n g = total_le n f g (λ i l. h i (omega (arith, l))) in
    let last : f n ≤ g n = h n (omega arith) in
    omega (arith, rest, last)

pub total_const : (n c : ℕ) → total n (λ _. c) ≡ n * c
total_const zero c = omega arith
total_const (suc n) c = let rest : total n (λ _. c) ≡ n * c = total_const n c in omega (arith, rest)

-- the sum of the numbers of two parts
total_add : (a b : ℕ) (f : ℕ → ℕ) → total (a + b) f ≡ total a f + total b (λ r. f (a + r))
total_add a zero f = let e : a + 0 ≡ a = omega arith in ap (λ (n : ℕ). total n f) e ∙ omega arith
total_add a (suc b) f =
    let e : a + suc b ≡ suc (a + b) = omega arith in
    let rest : total (a + b) f ≡ total a f + total b (λ r. f (a + r)) = total_add a b f in
    ap (λ (n : ℕ). total n f) e ∙ omega (arith, rest)

-- the sum over m rows of n numbers each
pub total_split : (m n : ℕ) (f : ℕ → ℕ)
    → total (m * n) f ≡ total m (λ q. total n (λ r. f (q * n + r)))
total_split zero n f = let e : 0 * n ≡ 0 = omega arith in ap (λ (k : ℕ). total k f) e
total_split (suc m) n f =
    let e : suc m * n ≡ m * n + n = omega arith in
    let rest : total (m * n) f ≡ total m (λ q. total n (λ r. f (q * n + r))) = total_split m n f in
    ap (λ (k : ℕ). total k f) e ∙ total_add (m * n) n f
    ∙ ap (λ (k : ℕ). k + total n (λ r. f (m * n + r))) rest

-- the sum as a sum over the list of the numbers
pub total_listed : (n : ℕ) (f : ℕ → ℕ) → total n f ≡ sum_by f (range_with_len 0 n)
total_listed zero f = refl
total_listed (suc n) f =
    let one : suc n ≡ n + 1 = omega arith in
    let rest : total n f ≡ sum_by f (range_with_len 0 n) = total_listed n f in
    let last : sum_by f (range_with_len 0 n ++ n ∷ []) ≡ sum_by f (range_with_len 0 n) + f n =
    sum_by_push f (range_with_len 0 n) n in
    let listed : range_with_len 0 (n + 1) ≡ range_with_len 0 n ++ n ∷ [] =
    sym (map-id (range_with_len 0 (n + 1))) ∙ map-range_with_len_more (λ i. i) 0 n n (omega arith)
    ∙ ap (λ (xs : List ℕ). xs ++ n ∷ []) (map-id (range_with_len 0 n)) in
    omega (arith, rest, last, ap (sum_by f) listed, ap (λ (k : ℕ). sum_by f (range_with_len 0 k)) one)

-- the rows of H that parts of c rows each cover, and the rows that are left: a times as many
pub rows_left : (d c H a S : ℕ)
    → total d (λ q. a * (min c (H - q * c) * S)) + a * ((H - d * c) * S) ≡ a * (H * S)
rows_left zero c H a S =
    let e : H - 0 * c ≡ H = omega arith in
    omega (arith, ap (λ (k : ℕ). a * (k * S)) e)
rows_left (suc d) c H a S =
    let x : ℕ = H - d * c in
    let here : ℕ = min c x in
    let after : ℕ = H - suc d * c in
    let both : here + after ≡ x = omega arith in
    let rest : total d (λ q. a * (min c (H - q * c) * S)) + a * (x * S)
    ≡ a * (H * S) = rows_left d c H a S in
    let parted : a * (x * S) ≡ a * (here * S) + a * (after * S) =
    ap (λ (k : ℕ). a * (k * S)) (sym both) ∙ parts a here after S in
    omega (arith, rest, parted)
  where
    parts : (a x y S : ℕ) → a * ((x + y) * S) ≡ a * (x * S) + a * (y * S)
    parts a x y S = omega arith
