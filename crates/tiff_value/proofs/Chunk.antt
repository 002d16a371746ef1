-- Rows of samples as bytes.
use Rattle.std.proofs.Common.{zero, suc, ◌≡◌, ℕ, ◌+◌, ◌-◌, ◌%◌, ◌^◌, ◌<◌, ◌≤◌, List, [], ◌∷◌, ◌++◌, map, get_or, length, take, drop, inl, inr, Result, Ok, Err, MatchResult, refl, ap, sym, ◌∙◌, arith, add-one, append-nil, append_assoc, length-append}
use Rattle.std.specs.List.{range_with_len, flat_map}
use Rattle.std.proofs.Math.Nat.{mod-eq_of_lt, mod-add-mod}
use Rattle.std.proofs.lemmas.List.{get_or-append-add, map-id, get_or-take, get_or-drop, take-map, drop-map, length-take-le, length-drop}
use Rattle.std.proofs.lemmas.List.FromFn.{fill_by_all, map-range_with_len_more, length-map-range_with_len, get_or-map-range_with_len}
use Rattle.std.proofs.lemmas.Grind.{flat_map-append}
use Rattle.std.proofs.lemmas.Bool.{lt-ltb, le-ltb, cases_lt}
use Rattle.tiff_base.specs.Number.{le}
use Rattle.tiff_base.specs.declared.error.TiffError.{TiffError}
use Rattle.tiff_base.specs.declared.error.TiffError.TheVariants.{OutOfMemory}
use Rattle.tiff_base.specs.declared.tags.Predictor.{Predictor}
use Rattle.tiff_base.specs.declared.tags.Predictor.TheVariants.{Horizontal}
use Rattle.tiff_base.specs.declared.tags.Predictor.TheVariants as predictor
use Rattle.tiff_value.specs.ColorType.{sample_number}
use Rattle.tiff_value.specs.Differences.{stored_difference, differences, predicted_row}
use Rattle.tiff_value.specs.Predicted.{AppendsRow}
use Rattle.tiff_value.specs.lemmas.Differences.{predicted}
use Rattle.tiff_value.proofs.Lowest.{spelled_by}

-- the list of each number in turn is the list
in_turn : (ns : List ℕ) → map (λ k. get_or ns k 0) (range_with_len 0 (length ns)) ≡ ns
in_turn ns = sym (fill_by_all (λ k. get_or ns k 0) ns (length ns) 0 refl (λ k h. refl))

-- without the horizontal predictor numbers are unchanged
pub left_plain : (predictor : Predictor) (m l s : ℕ) (ns : List ℕ) → (predictor ≡ Horizontal → ⊥)
    → differences predictor m l s ns ≡ ns
unfolding differences
left_plain predictor.None m l s ns other = in_turn ns
left_plain predictor.Horizontal m l s ns other = absurd (other refl)
left_plain predictor.FloatingPoint m l s ns other = in_turn ns

module _ {A : Type 0} (size : ℕ) (b : A → ℕ) (spelled : A → List ℕ)
    (by : (x : A) → spelled x ≡ le size (b x)) where
  -- the number of a sample
  abbrev num : A → ℕ
  num = sample_number size b

  -- the bytes of a sample are the bytes of its number
  spell : (x : A) → spelled x ≡ le size (num x)
  spell x = (spelled_by size (b x) (spelled x) (by x)).0

  -- the bytes of several samples are the bytes of their numbers
  pub spelled_all : (xs : List A) → flat_map spelled xs ≡ flat_map (le size) (map num xs)
  spelled_all [] = refl
  spelled_all (x ∷ xs) =
      ap (λ (ys : List ℕ). ys ++ flat_map spelled xs) (spell x)
      ∙ ap (λ (ys : List ℕ). le size (num x) ++ ys) (spelled_all xs)

  -- without the horizontal predictor the bytes are the bytes of each sample
  pub pushed_plain : {B : Type 0} (r : Result B TiffError) (predictor : Predictor) (m l s : ℕ)
      (xs : List A) (old given new : List ℕ)
      → (predictor ≡ Horizontal → ⊥) → given ≡ old
      → MatchResult r (λ _. new ≡ given ++ flat_map spelled xs) (λ e. e ≡ OutOfMemory)
      → MatchResult r (λ _. new ≡ old ++ flat_map (le size) (differences predictor m l s (map num xs))) (λ e. e ≡ OutOfMemory)
  pushed_plain (Ok x) predictor m l s xs old given new other same h =
      h ∙ ap (λ (ys : List ℕ). ys ++ flat_map spelled xs) same
      ∙ ap (λ (ys : List ℕ). old ++ ys) (spelled_all xs)
      ∙ ap (λ (ns : List ℕ). old ++ flat_map (le size) ns) (sym (left_plain predictor m l s (map num xs) other))
  pushed_plain (Err e) predictor m l s xs old given new other same h = h

  module _ (m : ℕ) (all : m ≡ 256 ^ size) (s : ℕ) (row : List A) where
    -- a sample whose bits are below the modulus is its own number
    plain : (x : A) → b x < m → num x ≡ b x
    plain x h = ap (λ (k : ℕ). b x % k) (sym all) ∙ mod-eq_of_lt h

    -- samples whose bits are below the modulus are their own numbers
    plain_all : (xs : List A) → ((k : ℕ) → k < length xs → get_or (map b xs) k 0 < m)
        → map num xs ≡ map b xs
    plain_all [] h = refl
    plain_all (x ∷ xs) h =
        λ i. plain x (h 0 (omega arith)) i ∷ plain_all xs (λ k lt. h (suc k) (omega (arith, lt))) i

-- bytes are written as they are
alone : (xs : List ℕ) → ((i : ℕ) → i < length xs → get_or xs i 0 < 256) → flat_map (le 1) xs ≡ xs
alone [] h = refl
alone (x ∷ xs) h =
    let e : x % 256 ≡ x = mod-eq_of_lt (h 0 (omega arith)) in
    let rest : flat_map (le 1) xs ≡ xs = alone xs (λ i lt. h (suc i) (omega (arith, lt))) in
    ap (λ (b : ℕ). b ∷ flat_map (le 1) xs) e ∙ ap (λ (bs : List ℕ). x ∷ bs) rest

-- the differences of bytes are their bytes
pub bytes_pushed : {B : Type 0} (r : Result B TiffError) (s : ℕ) (row old new : List ℕ)
    → ((k : ℕ) → k < length row → get_or row k 0 < 256)
    → ((k : ℕ) → k < length new → get_or new k 0 < 256)
    → AppendsRow (λ (n : ℕ). n) (Ok (predicted_row 256 s (map (λ (n : ℕ). n) row))) old new r
    → MatchResult r (λ _. new ≡ old ++ flat_map (le 1) (predicted_row 256 s (map (sample_number 1 (λ (n : ℕ). n)) row))) (λ e. e ≡ OutOfMemory)
bytes_pushed (Ok x) s row old new low held is =
    let same : map (λ (n : ℕ). n) row ≡ row = map-id row in
    let plain : map (sample_number 1 (λ (n : ℕ). n)) row ≡ map (λ (n : ℕ). n) row =
    plain_all 1 (λ (n : ℕ). n) (le 1) (λ n. refl) 256 refl s row row
    (λ k h. omega (arith, low k h, ap (λ (ns : List ℕ). get_or ns k 0) same)) in
    let fit : (k : ℕ) → k < length is.added → get_or is.added k 0 < 256 = λ k h.
    omega (arith, held (length old + k) (omega (arith, h, ap length is.whole, length-append old is.added)), get_or-append-add old is.added k 0, ap (λ (ns : List ℕ). get_or ns (length old + k) 0) is.whole) in
    is.whole ∙ ap (λ (ns : List ℕ). old ++ ns)
    (sym (alone is.added fit) ∙ ap (flat_map (le 1)) (sym (map-id is.added) ∙ is.same
    ∙ ap (predicted_row 256 s) (sym plain)))
bytes_pushed (Err e) s row old new low held is = is.0

-- the values of some numbers, and then the values of the numbers behind them
pub joined : {X : Type 0} (F : ℕ → X) (n k : ℕ)
    → map F (range_with_len 0 n) ++ map (λ j. F (n + j)) (range_with_len 0 k)
    ≡ map F (range_with_len 0 (n + k))
joined F n zero =
    let z : n + zero ≡ n = omega arith in
    append-nil (map F (range_with_len 0 n)) ∙ ap (λ j. map F (range_with_len 0 j)) (sym z)
joined F n (suc k) =
    let z : n + suc k ≡ n + k + 1 = omega arith in
    let front = map F (range_with_len 0 n) in
    let behind = map (λ j. F (n + j)) (range_with_len 0 k) in
    ap (λ j. front ++ map (λ i. F (n + i)) (range_with_len 0 j)) (sym (add-one k))
    ∙ ap (λ ys. front ++ ys) (map-range_with_len_more (λ j. F (n + j)) 0 k k (omega arith))
    ∙ sym (append_assoc front behind (F (n + k) ∷ []))
    ∙ ap (λ ys. ys ++ F (n + k) ∷ []) (joined F n k)
    ∙ sym (map-range_with_len_more F 0 (n + k) (n + k) (omega arith))
    ∙ ap (λ j. map F (range_with_len 0 j)) (sym z)

-- no row ends inside a row
no_part : (at row n : ℕ) → at < n → n < at + row → at % row ≡ 0 → n % row ≡ 0 → ⊥
no_part at row n h f a b =
    let z : at + (n - at) ≡ n = omega (arith, h) in
    let part : n - at < row = omega (arith, h, f) in
    let none : 0 + (n - at) ≡ n - at = omega arith in
    let e : (n - at) % row ≡ n - at = mod-eq_of_lt part in
    let g : n % row ≡ n - at =
    ap (λ (k : ℕ). k % row) (sym z) ∙ sym (mod-add-mod at row (n - at))
    ∙ ap (λ (k : ℕ). (k + (n - at)) % row) a ∙ ap (λ (k : ℕ). k % row) none ∙ e in
    omega (arith, h, b, g)

-- after whole rows, with numbers left, there is one more row
pub row_fits : (at row n : ℕ) → at < n → at % row ≡ 0 → n % row ≡ 0 → at + row ≤ n
row_fits at row n h a b =
    elim (cases_lt n (at + row)) [ inl f ↦ absurd (no_part at row n h f a b) | inr f ↦ f ]

-- the numbers of a row are some of all numbers
pub row_seen : {A : Type 0} (num : A → ℕ) (at row : ℕ) (xs : List A)
    → map num (take (at + row - at) (drop at xs)) ≡ take row (drop at (map num xs))
row_seen num at row xs =
    let e : at + row - at ≡ row = omega arith in
    sym (take-map num (at + row - at) (drop at xs))
    ∙ ap (λ (ns : List ℕ). take (at + row - at) ns) (sym (drop-map num at xs))
    ∙ ap (λ (n : ℕ). take n (drop at (map num xs))) e

module _ (m l s : ℕ) (numbers : List ℕ) where
  -- what is written in place of the first n numbers of rows
  abbrev pub rows_made : ℕ → List ℕ
  rows_made n = map (stored_difference Horizontal m l s numbers) (range_with_len 0 n)

  -- number k of a row is number at + k of all numbers
  kept_in_row : (at k : ℕ) → s ≤ l → k < l → at % l ≡ 0
      → stored_difference Horizontal m l s (take l (drop at numbers)) k
      ≡ stored_difference Horizontal m l s numbers (at + k)
  kept_in_row at k whole h e =
      let line : List ℕ = take l (drop at numbers) in
      let here : (j : ℕ) → j < l → get_or line j 0 ≡ get_or numbers (at + j) 0 =
      λ j i. get_or-take l (drop at numbers) j 0 i ∙ get_or-drop at numbers j 0 in
      let r : k % l ≡ k = mod-eq_of_lt h in
      let none : 0 + k ≡ k = omega arith in
      let q : (at + k) % l ≡ k =
      sym (mod-add-mod at l k) ∙ ap (λ (z : ℕ). (z + k) % l) e ∙ ap (λ (z : ℕ). z % l) none
      ∙ r in
      elim (cases_lt k s) [
        | inl f ↦ rw (r, q, lt-ltb k s f) (here k h)
        | inr f ↦
            let back : at + (k - s) ≡ at + k - s = omega (arith, f) in
            rw (r, q, le-ltb k s f) (ap (λ (x : ℕ). (x + m - get_or line (k - s) 0) % m) (here k h)
            ∙ ap (λ (y : ℕ). (get_or numbers (at + k) 0 + m - y) % m) (here (k - s) (omega (arith, h)) ∙ ap (λ (j : ℕ). get_or numbers j 0) back))
      ]

  -- the differences of a row
  pub row_made : (at : ℕ) → 0 < s → s ≤ l → at + l ≤ length numbers → at % l ≡ 0
      → predicted_row m s (take l (drop at numbers))
      ≡ map (λ j. stored_difference Horizontal m l s numbers (at + j)) (range_with_len 0 l)
  unfolding differences
  row_made at some whole fits e =
      let line : List ℕ = take l (drop at numbers) in
      let long : length line ≡ l =
      length-take-le l (drop at numbers) (omega (arith, length-drop at numbers, fits)) in
      predicted m s line some (omega (arith, long, whole))
      ∙ ap (λ (n : ℕ). differences Horizontal m n s line) long
      ∙ fill_by_all (λ j. stored_difference Horizontal m l s numbers (at
      + j)) (differences Horizontal m l s line) l 0
      (length-map-range_with_len (stored_difference Horizontal m l s line) 0 (length line) ∙ long)
      (λ k h. get_or-map-range_with_len (stored_difference Horizontal m l s line) 0 (length line) k k 0 (omega (arith, long, h)) (omega arith) ∙ kept_in_row at k whole h e)

  -- the differences of the rows before a row, and then of this row
  pub rows_next : (size at : ℕ) (old given new : List ℕ) → 0 < s → s ≤ l → at + l ≤ length numbers
      → at % l ≡ 0
      → given ≡ old ++ flat_map (le size) (rows_made at)
      → new ≡ given ++ flat_map (le size) (predicted_row m s (take l (drop at numbers)))
      → new ≡ old ++ flat_map (le size) (rows_made (at + l))
  rows_next size at old given new some whole fits e was is =
      let F = stored_difference Horizontal m l s numbers in
      let behind : List ℕ = map (λ j. F (at + j)) (range_with_len 0 l) in
      is ∙ ap (λ (ns : List ℕ). given ++ flat_map (le size) ns) (row_made at some whole fits e)
      ∙ ap (λ (ys : List ℕ). ys ++ flat_map (le size) behind) was
      ∙ append_assoc old (flat_map (le size) (rows_made at)) (flat_map (le size) behind)
      ∙ ap (λ (ys : List ℕ). old ++ ys) (sym (flat_map-append (le size) (rows_made at) behind))
      ∙ ap (λ (ns : List ℕ). old ++ flat_map (le size) ns) (joined F at l)

  -- the differences of all rows
  pub rows_end : (size at : ℕ) (old new : List ℕ) → at ≡ length numbers
      → new ≡ old ++ flat_map (le size) (rows_made at)
      → new ≡ old ++ flat_map (le size) (differences Horizontal m l s numbers)
  unfolding differences
  rows_end size at old new e was = was ∙ ap (λ (n : ℕ). old ++ flat_map (le size) (rows_made n)) e
