-- Rows of differences, sixteen samples at once.
use Rattle.std.proofs.Common.{◌≡◌, ℕ, suc, ◌+◌, ◌-◌, ◌%◌, ◌^◌, ◌<◌, ◌≤◌, List, [], ◌∷◌, ◌++◌, map, get_or, length, take, drop, set, ap, sym, refl, ◌∙◌, arith, inl, inr, length-append}
use Rattle.std.specs.List.{drop-map, range_with_len}
use Rattle.std.specs.Int.{Width, cast_unsigned, cast_signed}
use Rattle.std.proofs.lemmas.Bool.{cases_lt}
use Rattle.std.proofs.lemmas.Int.{of_z-to_z}
use Rattle.std.proofs.lemmas.List.{get_or-map, get_or-take, get_or_append_left, get_or-append-add, map-id, take-map, map-append, length-map, length-take-le, take_all, length-drop, length-set}
use Rattle.std.proofs.lemmas.List.FromFn.{fill_by_all, get_or-map-range_with_len, map-range_with_len_more, length-map-range_with_len}
use Rattle.std.proofs.lemmas.Simd.{put_chunk_whole, length-chunk, get_or-chunk, length-zip2, get_or-zip2}
use Rattle.std.proofs.lemmas.Slice.{take-put_mid}
use Rattle.std.proofs.Math.Nat.{mod-lt}
use Rattle.std.proofs.Math.Seq.{take-suc-set}
use Rattle.tiff_base.specs.declared.tags.Predictor.TheVariants.{Horizontal}
use Rattle.tiff_value.specs.Differences.{stored_difference, differences, predicted_row}
use Rattle.tiff_value.specs.Lanes.{less_from}
use Rattle.tiff_value.specs.lemmas.Differences.{first_kept, later_kept, predicted}
use Rattle.tiff_value.proofs.Predicted.{made}
use borrow.Rule.Slice.PartMut.{put_mid, same_len_mid}
use lib.IntN.{ℤ}
use lib.Lanes.{zip2, chunk, put_chunk}
use lib.Pow.{pow_pos}
use mir.Val.{bits}

-- ---- lanes

-- two loads from a row, one minus the other
lanes_less : {A : Type 0} (b : A → ℕ) (m : ℕ) (f : A → A → A) (d : A) (n at before : ℕ)
    (row : List A) → before ≤ at → at + n ≤ length row
    → ((x y : A) → b (f x y) ≡ (b x + (m - b y)) % m)
    → map b (zip2 f (chunk at n row) (chunk before n row)) ≡ less_from m n at before (map b row)
lanes_less {A} b m f d n at before row order room each =
    let xs : List A = chunk at n row in
    let ys : List A = chunk before n row in
    let lx : length xs ≡ n = length-chunk at n row room in
    let ly : length ys ≡ n = length-chunk before n row (omega (arith, order, room)) in
    let zs : List A = zip2 f xs ys in
    let lz : length zs ≡ n = length-zip2 f xs ys (omega (arith, lx, ly)) ∙ lx in
    let numbers : List ℕ = map b row in
    fill_by_all (λ k. (get_or numbers (at + k) 0
    + (m - get_or numbers (before + k) 0)) % m) (map b zs) n 0 (length-map zs b ∙ lz)
    (λ k h.
    let one : get_or numbers (at + k) 0 ≡ b (get_or row (at + k) d) =
    get_or-map b row (at + k) d 0 (omega (arith, h, room)) in
    let other : get_or numbers (before + k) 0 ≡ b (get_or row (before + k) d) =
    get_or-map b row (before + k) d 0 (omega (arith, h, room, order)) in
    get_or-map b zs k d 0 (omega (arith, h, lz))
    ∙ ap b (get_or-zip2 f xs ys k d d d (omega (arith, h, lx)) (omega (arith, h, ly)))
    ∙ (λ i. b (f (get_or-chunk at n row k d h i) (get_or-chunk before n row k d h i)))
    ∙ each (get_or row (at + k) d) (get_or row (before + k) d)
    ∙ (λ i. (sym one i + (m - sym other i)) % m))

lanes_long : {A : Type 0} (f : A → A → A) (n at before : ℕ) (row : List A) → before ≤ at
    → at + n ≤ length row → length (zip2 f (chunk at n row) (chunk before n row)) ≡ n
lanes_long f n at before row order room =
    let lx = length-chunk at n row room in
    let ly = length-chunk before n row (omega (arith, order, room)) in
    length-zip2 f (chunk at n row) (chunk before n row) (omega (arith, lx, ly)) ∙ lx

-- two loads from a row, one minus the other, stored
pub lanes_stored : {A : Type 0} (b : A → ℕ) (m : ℕ) (f : A → A → A) (d : A) (n at before : ℕ)
    (row out : List A) → length out ≡ n → before ≤ at → at + n ≤ length row
    → ((x y : A) → b (f x y) ≡ (b x + (m - b y)) % m)
    → map b (put_chunk 0 out (zip2 f (chunk at n row) (chunk before n row)))
    ≡ less_from m n at before (map b row)
lanes_stored b m f d n at before row out long order room each =
    ap (map b) (put_chunk_whole out (zip2 f (chunk at n row) (chunk before n row)) (long
    ∙ sym (lanes_long f n at before row order room)))
    ∙ lanes_less b m f d n at before row order room each

-- signed lanes, by their bits
abbrev pub wrapped : Width → ℕ → ℕ → ℕ
wrapped w x y = (x + (2 ^ bits w - y)) % 2 ^ bits w

bits_back : (w : Width) (us vs : List ℕ)
    → map (cast_unsigned w) (map (cast_signed w) (zip2 (wrapped w) us vs)) ≡ zip2 (wrapped w) us vs
bits_back w [] vs = refl
bits_back w (u ∷ us) [] = refl
bits_back w (u ∷ us) (v ∷ vs) =
    λ i. of_z-to_z w (wrapped w u v) (mod-lt (u + (2 ^ bits w - v)) (pow_pos (bits w))) i
    ∷ bits_back w us vs i

chunk_map : {A : Type 0} (b : A → ℕ) (at n : ℕ) (row : List A)
    → map b (chunk at n row) ≡ chunk at n (map b row)
chunk_map b at n row = sym (take-map b n (drop at row)) ∙ ap (take n) (sym (drop-map b at row))

pub signed_stored : (w : Width) (n at before : ℕ) (row out : List ℤ) → length out ≡ n → before ≤ at
    → at + n ≤ length row
    → map (cast_unsigned w) (put_chunk 0 out (map (cast_signed w) (zip2 (wrapped w) (map (cast_unsigned w) (chunk at n row)) (map (cast_unsigned w) (chunk before n row)))))
    ≡ less_from (2 ^ bits w) n at before (map (cast_unsigned w) row)
signed_stored w n at before row out long order room =
    let b : ℤ → ℕ = cast_unsigned w in
    let us : List ℕ = map b row in
    let all : at + n ≤ length us = omega (arith, length-map row b, room) in
    let zs : List ℕ = zip2 (wrapped w) (map b (chunk at n row)) (map b (chunk before n row)) in
    let moved : zs ≡ zip2 (wrapped w) (chunk at n us) (chunk before n us) =
    λ i. zip2 (wrapped w) (chunk_map b at n row i) (chunk_map b before n row i) in
    let wide : length (map (cast_signed w) zs) ≡ n =
    length-map zs (cast_signed w) ∙ ap length moved
    ∙ lanes_long (wrapped w) n at before us order all in
    ap (map b) (put_chunk_whole out (map (cast_signed w) zs) (long ∙ sym wide))
    ∙ bits_back w (map b (chunk at n row)) (map b (chunk before n row))
    ∙ moved
    ∙ sym (map-id (zip2 (wrapped w) (chunk at n us) (chunk before n us)))
    ∙ lanes_less (λ (x : ℕ). x) (2 ^ bits w) (wrapped w) 0 n at before us order all (λ x y. refl)
    ∙ ap (less_from (2 ^ bits w) n at before) (map-id us)

-- ---- rows

-- some values, and then n more values
made_behind : (F G : ℕ → ℕ) (a n : ℕ) → ((k : ℕ) → k < n → G k ≡ F (a + k))
    → map F (range_with_len 0 a) ++ map G (range_with_len 0 n) ≡ map F (range_with_len 0 (a + n))
made_behind F G a n same =
    let xs : List ℕ = map F (range_with_len 0 a) in
    let ys : List ℕ = map G (range_with_len 0 n) in
    let lx : length xs ≡ a = length-map-range_with_len F 0 a in
    let ly : length ys ≡ n = length-map-range_with_len G 0 n in
    fill_by_all F (xs ++ ys) (a + n) 0 (omega (arith, length-append xs ys, lx, ly))
    (λ k h. elim (cases_lt k a) [
      | inl below ↦ get_or_append_left xs ys 0 k (omega (arith, below, lx))
          ∙ get_or-map-range_with_len F 0 a k k 0 below (omega arith)
      | inr above ↦
          let e : k ≡ length xs + (k - a) = omega (arith, above, lx) in
          ap (λ (j : ℕ). get_or (xs ++ ys) j 0) e ∙ get_or-append-add xs ys (k - a) 0
          ∙ get_or-map-range_with_len G 0 n (k - a) (k - a) 0 (omega (arith, h, above)) (omega arith)
          ∙ same (k - a) (omega (arith, h, above)) ∙ ap F (omega (arith, above))
    ])

-- the bits of one more sample are below the modulus
pub below_more : {A : Type 0} (b : A → ℕ) (m : ℕ) (row : List A) (i : ℕ) (x : A) → i < length row
    → x ≡ get_or row i x → b x < m
    → ((k : ℕ) → k < i → get_or (map b row) k 0 < m) → (k : ℕ) → k < i + 1
    → get_or (map b row) k 0 < m
below_more b m row i x within is low all k h = elim (cases_lt k i) [
  | inl below ↦ all k below
  | inr above ↦
      let e : k ≡ i = omega (arith, h, above) in
      omega (arith, low, ap (λ (j : ℕ). get_or (map b row) j 0) e, get_or-map b row i x 0 within, ap b (sym is))
]

-- the values so far, and then the next one
one_set : {A : Type 0} (b : A → ℕ) (value : ℕ → ℕ) (k : ℕ) (next : A) (out new : List A)
    → k < length out → new ≡ set out k next → value k ≡ b next
    → map b (take k out) ≡ map value (range_with_len 0 k)
    → map b (take (k + 1) new) ≡ map value (range_with_len 0 (k + 1))
one_set b value k next out new within is step done =
    let more : k + 1 ≡ suc k = omega arith in
    (λ j. map b (take (more j) (is j)))
    ∙ ap (map b) (take-suc-set out k next within)
    ∙ map-append b (take k out) (next ∷ [])
    ∙ (λ j. done j ++ sym step j ∷ [])
    ∙ sym (map-range_with_len_more value 0 k k (omega arith))

-- The first k of a list of n numbers are numbers of a row, each minus a number before it.
pub record LessUpto {A : Type 0} (b : A → ℕ) (m at before : ℕ) (row : List A) (n k : ℕ)
    (out : List A) : Type 0 where
  pub long : length out ≡ n
  pub done : map b (take k out) ≡ less_from m k at before (map b row)

-- one step: the next difference
pub less_one : {A : Type 0} (b : A → ℕ) (m at before : ℕ) (row : List A) (n k : ℕ) (x y next : A)
    (out new : List A)
    → k < n → at + k < length row → before + k < length row → x ≡ get_or row (at + k) x
    → y ≡ get_or row (before + k) y
    → b next ≡ (b x + m - b y) % m → b y < m → LessUpto b m at before row n k out
    → new ≡ set out k next → LessUpto b m at before row n (k + 1) new
less_one b m at before row n k x y next out new within there behind is_x is_y is_next low h e =
    let xs : List ℕ = map b row in
    let each : ℕ → ℕ = λ j. (get_or xs (at + j) 0 + (m - get_or xs (before + j) 0)) % m in
    let one : get_or xs (at + k) 0 ≡ b x = get_or-map b row (at + k) x 0 there ∙ ap b (sym is_x) in
    let other : get_or xs (before + k) 0 ≡ b y =
    get_or-map b row (before + k) y 0 behind ∙ ap b (sym is_y) in
    let wraps : b x + (m - b y) ≡ b x + m - b y = omega (arith, low) in
    let step : each k ≡ b next =
    (λ i. (one i + (m - other i)) % m) ∙ ap (λ (q : ℕ). q % m) wraps ∙ sym is_next in
    record {
      long = ap length e ∙ length-set out k next ∙ h.long;
      done = one_set b each k next out new (omega (arith, h.long, within)) e step h.done;
    }

-- all n differences
pub less_whole : {A : Type 0} (b : A → ℕ) (m at before : ℕ) (row : List A) (n k : ℕ) (out : List A)
    → k ≡ n → LessUpto b m at before row n k out
    → map b out ≡ less_from m n at before (map b row)
less_whole b m at before row n k out e h =
    ap (map b) (sym (take_all k out (omega (arith, h.long, e)))) ∙ h.done
    ∙ ap (λ (j : ℕ). less_from m j at before (map b row)) e

module _ {A : Type 0} (b : A → ℕ) (m s : ℕ) (row : List A) where
  abbrev value : ℕ → ℕ
  value = stored_difference Horizontal m (length (map b row)) s (map b row)

  -- A list as long as a row has the first n differences of the row.
  pub record Upto (n : ℕ) (out : List A) : Type 0 where
    pub long : length out ≡ length row
    pub done : map b (take n out) ≡ made b m s row n

  pub upto_first : (out : List A) → s ≤ length row → out ≡ row → Upto s out
  upto_first out whole e =
      let xs : List ℕ = map b row in
      let l : length xs ≡ length row = length-map row b in
      record {
        long = ap length e;
        done = ap (λ (ys : List A). map b (take s ys)) e ∙ sym (take-map b s row)
            ∙ fill_by_all value (take s xs) s 0 (length-take-le s xs (omega (arith, l, whole)))
            (λ k h. get_or-take s xs k 0 h ∙ sym (first_kept m (length xs) s xs k (omega (arith, l, h, whole)) h));
      }

  pub upto_lanes : (n at : ℕ) (out part : List A) → s ≤ at → at + n ≤ length row
      → ((k : ℕ) → k < length row → get_or (map b row) k 0 < m) → Upto at out
      → map b part ≡ less_from m n at (at - s) (map b row)
      → Upto (at + n) (put_mid at (at + n - at) out part)
  upto_lanes n at out part first room below h is =
      let xs : List ℕ = map b row in
      let each : ℕ → ℕ = λ k. (get_or xs (at + k) 0 + (m - get_or xs (at - s + k) 0)) % m in
      let long : length part ≡ n =
      sym (length-map part b) ∙ ap length is ∙ length-map-range_with_len each 0 n in
      let l : length xs ≡ length row = length-map row b in
      let same : (k : ℕ) → k < n → each k ≡ value (at + k) =
      λ k lt.
      let back : at - s + k ≡ at + k - s = omega (arith, first) in
      let wraps : get_or xs (at + k) 0 + (m - get_or xs (at + k - s) 0) ≡ get_or xs (at + k) 0
      + m - get_or xs (at + k - s) 0 =
      omega (arith, below (at + k - s) (omega (arith, lt, room))) in
      ap (λ (j : ℕ). (get_or xs (at + k) 0 + (m - get_or xs j 0)) % m) back
      ∙ ap (λ (q : ℕ). q % m) wraps
      ∙ sym (later_kept m (length xs) s xs (at + k) (omega (arith, l, lt, room)) (omega (arith, first))) in
      record {
        long =
            same_len_mid at (at + n - at) out part (omega (arith, long, length-take-le (at + n - at) (drop at out) (omega (arith, length-drop at out, h.long, room)))) ∙ h.long;
        done =
            ap (map b) (take-put_mid at (at + n - at) out part (at
            + n) (omega (arith, long)) (omega (arith, h.long, room)))
            ∙ map-append b (take at out) part
            ∙ (λ i. h.done i ++ is i)
            ∙ made_behind value each at n same;
      }

  pub upto_one : (i : ℕ) (x before next : A) (out new : List A) → s ≤ i → i < length row
      → x ≡ get_or row i x → before ≡ get_or row (i - s) before
      → b next ≡ (b x + m - b before) % m → Upto i out → new ≡ set out i next → Upto (i + 1) new
  upto_one i x before next out new first within is_x is_before is_next h e =
      let xs : List ℕ = map b row in
      let l : length xs ≡ length row = length-map row b in
      let one : get_or xs i 0 ≡ b x = get_or-map b row i x 0 within ∙ ap b (sym is_x) in
      let other : get_or xs (i - s) 0 ≡ b before =
      get_or-map b row (i - s) before 0 (omega (arith, within)) ∙ ap b (sym is_before) in
      let step : value i ≡ b next =
      later_kept m (length xs) s xs i (omega (arith, l, within)) first
      ∙ ap (λ (y : ℕ). (y + m - get_or xs (i - s) 0) % m) one
      ∙ ap (λ (y : ℕ). (b x + m - y) % m) other
      ∙ sym is_next in
      record {
        long = ap length e ∙ length-set out i next ∙ h.long;
        done = one_set b value i next out new (omega (arith, h.long, within)) e step h.done;
      }

  pub upto_all : (n : ℕ) (out : List A) → 0 < s → s ≤ length row → n ≡ length row → Upto n out
      → map b out ≡ predicted_row m s (map b row)
  unfolding differences
  upto_all n out some whole last h =
      let xs : List ℕ = map b row in
      let l : length xs ≡ length row = length-map row b in
      ap (map b) (sym (take_all n out (omega (arith, h.long, last)))) ∙ h.done
      ∙ ap (made b m s row) (last ∙ sym l)
      ∙ sym (predicted m s xs some (omega (arith, l, whole)))
