-- The numbers that are put into a stored row, and what a reader makes of them.
use Rattle.std.proofs.Common.{◌≡◌, ℕ, suc, ◌+◌, ◌-◌, ◌*◌, ◌/◌, ◌%◌, ◌^◌, ◌<◌, ◌≤◌, List, ◌++◌, length, take, drop, get_or, refl, ap, sym, ◌∙◌, subst, arith, add-one, ⊎_elim}
use Rattle.std.specs.Prelude.{sum_by, true, false, nat_lt}
use Rattle.std.specs.List.{range_with_len}
use Rattle.std.proofs.lemmas.Bool.{cases_lt, lt-ltb, le-ltb}
use Rattle.std.proofs.lemmas.List.{get_or-set_same, get_or-set_other, length-set, length-append, length-drop, length-take-le}
use Rattle.std.proofs.lemmas.Nat.{div-add-mod', div-mul-add, mod-mul-add, mod_below}
use Rattle.std.proofs.Math.Nat.{mul-le-mul_right}
use Rattle.std.proofs.Math.ListN.{set}
use borrow.Rule.Slice.PartMut.{put_mid, post_of}
use Rattle.tiff_base.specs.declared.tags.ByteOrder.{ByteOrder}
use Rattle.tiff_base.specs.declared.tags.ByteOrder.TheVariants.{LittleEndian, BigEndian}
use Rattle.tiff_base.specs.declared.tags.Predictor.TheVariants as predictor
use Rattle.tiff_base.specs.Number.{number}
use Rattle.tiff_base.specs.SourceAndSink.{bytes_at}
use Rattle.tiff_value.specs.lemmas.Differences.{undone}
use Rattle.tiff_page.specs.Pixels.{row_number, summed_number, width_of}
use Rattle.tiff_page.specs.lemmas.Rows.{each_at, number_same, put_there, put_below, put_above}
use Rattle.tiff_rewrite.specs.StoredNumbers.{stored_by, place_of, PutsNumber}

-- ---- one number is put

pub length_put_mid : (old part : List ℕ) (at n : ℕ) → at + n ≤ length old → length part ≡ n
    → length (put_mid at n old part) ≡ length old
length_put_mid old part at n v z =
    length-append (take at old) (part ++ post_of at n old)
    ∙ omega (arith, length-append part (post_of at n old), length-take-le at old (omega (arith, v)), length-drop at old, length-drop n (drop at old), z, v)

pub puts : (order : ByteOrder) (size : ℕ) (old part : List ℕ) (k n len : ℕ) → len ≡ size
    → length part ≡ size → (k + 1) * size ≤ length old
    → number order (width_of size) part ≡ n
    → PutsNumber order size k n old (put_mid (k * size) len old part)
puts order size old part k n len e l w p =
    let z : length part ≡ len = omega (arith, l, e) in
    let v : k * size + len ≤ length old = omega (arith, w, e) in
    let new : List ℕ = put_mid (k * size) len old part in
    let same : length new ≡ length old = length_put_mid old part (k * size) len v z in
    let there : bytes_at new (k * size) size ≡ part =
    ap (λ (m : ℕ). bytes_at new (k * size) m) (sym e) ∙ put_there old part (k * size) len v z in
    record {
      same_length = same;
      there =
          ap (number order (width_of size)) (each_at size k new (omega (arith, w, same)) ∙ there)
          ∙ p;
      below = λ i h. put_below old part (k * size) len i (omega (arith, v)) h;
      above = λ i h. put_above old part (k * size) len i (omega (arith, v)) z (omega (arith, h, e));
    }

one_byte : (order : ByteOrder) (row : List ℕ) (k : ℕ) → row_number order 1 row k ≡ get_or row k 0
unfolding number
one_byte LittleEndian row k =
    let e : k * 1 + 0 ≡ k = omega arith in ap (λ (i : ℕ). get_or row i 0) e
one_byte BigEndian row k = let e : k * 1 + 0 ≡ k = omega arith in ap (λ (i : ℕ). get_or row i 0) e

pub puts_byte : (order : ByteOrder) (old : List ℕ) (k n : ℕ) → (k + 1) * 1 ≤ length old
    → PutsNumber order 1 k n old (set old k n)
puts_byte order old k n w =
    record {
      same_length = length-set old k n;
      there = one_byte order (set old k n) k ∙ get_or-set_same old k n 0 (omega (arith, w));
      below = λ i h. get_or-set_other old k i n 0 (λ d. omega (arith, h, d));
      above = λ i h. get_or-set_other old k i n 0 (λ d. omega (arith, h, d));
    }

-- ---- the places of numbers

pub place_before : (s stored m n : ℕ) → 0 < s → s ≤ stored → m < n
    → place_of s stored m < place_of s stored n
place_before s stored m n some few l =
    let lm : m % s < s = mod_below m s some in
    let ln : n % s < s = mod_below n s some in
    let wm : m / s * s + m % s ≡ m = div-add-mod' m s in
    let wn : n / s * s + n % s ≡ n = div-add-mod' n s in
    ⊎_elim
    (λ (h : m / s < n / s). let u : (m / s + 1) * stored
    ≤ n / s * stored = mul-le-mul_right stored (omega (arith, h)) in omega (arith, u, lm, few))
    (λ (h : n / s ≤ m / s).
    let u : n / s * s ≤ m / s * s = mul-le-mul_right s h in
    let v : n / s * stored ≤ m / s * stored = mul-le-mul_right stored h in
    ⊎_elim
    (λ (g : n / s < m / s). let y : (n / s + 1) * s
    ≤ m / s * s = mul-le-mul_right s (omega (arith, g)) in Prim.absurd (omega (arith, y, wm, wn, ln, l)))
    (λ (g : m / s ≤ n / s).
    let y : m / s * s ≤ n / s * s = mul-le-mul_right s g in
    let z : m / s * stored ≤ n / s * stored = mul-le-mul_right stored g in
    omega (arith, u, v, y, z, wm, wn, l))
    (cases_lt (n / s) (m / s)))
    (cases_lt (m / s) (n / s))

-- ---- one more number is put

module _ (order : ByteOrder) (size s stored : ℕ) (value : ℕ → ℕ) (n : ℕ) (mid new : List ℕ)
    (wide : 0 < size) (some : 0 < s) (few : s ≤ stored)
    (a : PutsNumber order size (place_of s stored n) (value n) mid new) where
  pub done_more : ((m : ℕ) → m < n → row_number order size mid (place_of s stored m) ≡ value m)
      → (m : ℕ) → m < n + 1 → row_number order size new (place_of s stored m) ≡ value m
  done_more done m h =
      ⊎_elim
      (λ (l : m < n).
      let u : (place_of s stored m + 1) * size ≤ place_of s stored n * size =
      mul-le-mul_right size (omega (arith, place_before s stored m n some few l)) in
      number_same order size new mid (place_of s stored m) (λ i x y. a.below i (omega (arith, u, y))) ∙ done m l)
      (λ (l : n ≤ m).
      let e : n ≡ m = omega (arith, l, h) in
      subst (λ (k : ℕ). row_number order size new (place_of s stored k) ≡ value k) e a.there)
      (cases_lt m n)

  pub kept_more : (old : List ℕ)
      → ((b : ℕ) → ((m : ℕ) → m < n → b / size ≡ place_of s stored m → ⊥)
      → get_or mid b 0 ≡ get_or old b 0)
      → (b : ℕ) → ((m : ℕ) → m < n + 1 → b / size ≡ place_of s stored m → ⊥)
      → get_or new b 0 ≡ get_or old b 0
  kept_more old kept b f =
      let k : ℕ = place_of s stored n in
      let before : get_or mid b 0 ≡ get_or old b 0 = kept b (λ m h e. f m (omega (arith, h)) e) in
      ⊎_elim
      (λ (l : b < k * size). a.below b l ∙ before)
      (λ (l : k * size ≤ b).
      ⊎_elim
      (λ (g : b < k * size + size).
      let e : b ≡ k * size + (b - k * size) = omega (arith, l) in
      Prim.absurd (f n (omega arith) (ap (λ (x : ℕ). x / size) e ∙ div-mul-add k size (b - k * size) (omega (arith, l, g)))))
      (λ (g : k * size + size ≤ b). a.above b g ∙ before)
      (cases_lt b (k * size + size)))
      (cases_lt b (k * size))

-- ---- the differences of a row, summed

pub summed_back : (order : ByteOrder) (size s stored : ℕ) (row : List ℕ) (value : ℕ → ℕ)
    (count n : ℕ) → 0 < s → s ≤ stored → n < count
    → ((m : ℕ) → value m < 256 ^ size)
    → ((m : ℕ) → m < count → row_number order size row (place_of s stored m)
    ≡ stored_by predictor.Horizontal (256 ^ size) s value m)
    → summed_number order size stored row (place_of s stored n) ≡ value n
summed_back order size s stored row value count n some few within below put =
    let j : ℕ = n % s in
    let low : j < s = mod_below n s some in
    let low_stored : j < stored = omega (arith, low, few) in
    let x : ℕ → ℕ = λ c. value (c * s + j) in
    let d : ℕ → ℕ = λ c. row_number order size row (c * stored + j) in
    let at : (c : ℕ) → place_of s stored (c * s + j) ≡ c * stored + j =
    λ c i. (div-mul-add c s j low i) * stored + (mod-mul-add c s j low i) in
    let whole : n / s * s + j ≡ n = div-add-mod' n s in
    let up : (c : ℕ) → c ≤ n / s → c * s + j < count =
    λ c h. (let u : c * s ≤ n / s * s = mul-le-mul_right s h in omega (arith, u, whole, within)) in
    let is : (c : ℕ) → c ≤ n / s → d c
    ≡ stored_by predictor.Horizontal (256 ^ size) s value (c * s + j) =
    λ c h. ap (row_number order size row) (sym (at c)) ∙ put (c * s + j) (up c h) in
    let first : nat_lt (0 * s + j) s ≡ true = lt-ltb (0 * s + j) s (omega (arith, low)) in
    let z : d 0 ≡ x 0 = is 0 (omega arith) ∙ (rw first refl) in
    let e : (c : ℕ) → c < n / s → d (suc c) ≡ (x (suc c) + 256 ^ size - x c) % 256 ^ size =
    λ c h.
    let past : nat_lt (suc c * s + j) s ≡ false = le-ltb (suc c * s + j) s (omega arith) in
    let back : (suc c * s + j) - s ≡ c * s + j = omega arith in
    is (suc c) h ∙ (rw past (ap (λ (m : ℕ). (x (suc c) + 256 ^ size - value m) % 256 ^ size) back)) in
    (λ i. sum_by (λ c. row_number order size row (c * stored
    + (mod-mul-add (n / s) stored j low_stored) i)) (range_with_len 0 ((div-mul-add (n / s) stored j low_stored) i + 1)) % 256 ^ size)
    ∙ ap (λ (m : ℕ). sum_by d (range_with_len 0 m) % 256 ^ size) (add-one (n / s))
    ∙ undone x d (256 ^ size) (n / s) (λ c. below (c * s + j)) z e (n / s) (omega arith)
    ∙ ap value whole
