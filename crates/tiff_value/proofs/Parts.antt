-- The bytes of a part of a row, stored one number after another.
use Rattle.std.proofs.Common.{zero, suc, ◌≡◌, ℕ, ◌+◌, ◌-◌, ◌*◌, ◌%◌, ◌^◌, ◌<◌, ◌≤◌, List, [], ◌∷◌, ◌++◌, map, get_or, length, take, drop, ap, sym, refl, ◌∙◌, arith, append-nil}
use Rattle.std.specs.Int.{bytes_low_first}
use Rattle.std.specs.List.{range_with_len, flat_map}
use Rattle.std.proofs.Math.Nat.{mod-eq_of_lt, mul-le-mul_right}
use Rattle.std.proofs.lemmas.List.{get_or-map, length-map, length-take-le, length-drop}
use Rattle.std.proofs.lemmas.List.FromFn.{map-range_with_len_more}
use Rattle.std.proofs.lemmas.Grind.{flat_map-append}
use Rattle.std.proofs.lemmas.Slice.{take-put_mid}
use Rattle.tiff_base.specs.Number.{le}
use Rattle.tiff_base.specs.declared.tags.Predictor.TheVariants.{Horizontal}
use Rattle.tiff_value.specs.ColorType.{sample_number}
use Rattle.tiff_value.specs.Differences.{stored_difference}
use Rattle.tiff_value.specs.lemmas.Differences.{first_kept, later_kept}
use Rattle.tiff_value.proofs.Lowest.{spelled_by}
use borrow.Rule.Slice.PartMut.{put_mid, same_len_mid}

-- a number has `size` bytes
pub length-le : (i size n : ℕ) → length (bytes_low_first i size n) ≡ size
length-le i zero n = refl
length-le i (suc size) n = ap suc (length-le (suc i) size n)

module _ (F : ℕ → ℕ) (size at end : ℕ) where
  -- the bytes of the numbers from `at` up to k
  abbrev pub bytes_upto : ℕ → List ℕ
  bytes_upto k = flat_map (le size) (map (λ j. F (at + j)) (range_with_len 0 (k - at)))

  -- The bytes of a part of a row contain the bytes of the numbers up to k.
  pub record PutUpto (k : ℕ) (out : List ℕ) : Type 0 where
    pub long : length out ≡ (end - at) * size
    pub done : take ((k - at) * size) out ≡ bytes_upto k

  -- one step: the bytes of the next number
  pub put_next : (k : ℕ) (out part : List ℕ) → at ≤ k → k < end → part ≡ le size (F k)
      → PutUpto k out
      → PutUpto (k + 1) (put_mid ((k - at) * size) ((k - at) * size
      + size - (k - at) * size) out part)
  put_next k out part after within is h =
      let to : ℕ = (k - at) * size in
      let one : k + 1 - at ≡ (k - at) + 1 = omega (arith, after) in
      let here : at + (k - at) ≡ k = omega (arith, after) in
      let below : (k - at + 1) * size ≤ (end - at) * size =
      mul-le-mul_right size (omega (arith, after, within)) in
      let next : (k - at + 1) * size ≡ to + size = omega arith in
      let more : (k + 1 - at) * size ≡ to + size = ap (λ n. n * size) one ∙ next in
      let many : length part ≡ size = ap length is ∙ length-le 0 size (F k) in
      let room : to + size ≤ length out = omega (arith, below, next, h.long) in
      let G : ℕ → ℕ = λ j. F (at + j) in
      let last : le size (F k) ≡ flat_map (le size) (G (k - at) ∷ []) =
      ap (λ n. le size (F n)) (sym here) ∙ sym (append-nil (le size (G (k - at)))) in
      record {
        long =
            same_len_mid to (to + size - to) out part (omega (arith, many, length-take-le (to + size - to) (drop to out) (omega (arith, length-drop to out, room)))) ∙ h.long;
        done = (λ i. take (more i) (put_mid to (to + size - to) out part))
            ∙ take-put_mid to (to + size - to) out part (to
            + size) (omega (arith, many)) (omega (arith, room))
            ∙ (λ i. h.done i ++ is i)
            ∙ ap (λ bs. bytes_upto k ++ bs) last
            ∙ sym (flat_map-append (le size) (map G (range_with_len 0 (k - at))) (G (k - at) ∷ []))
            ∙ ap (flat_map (le size)) (sym (map-range_with_len_more G 0 (k - at) (k - at) (omega arith)))
            ∙ (λ i. flat_map (le size) (map G (range_with_len 0 (sym one i))));
      }

module _ {A : Type 0} (b : A → ℕ) (size m : ℕ) (all : m ≡ 256 ^ size) (s : ℕ) (row : List A) where
  -- the numbers of a row
  abbrev pub numbers : List ℕ
  numbers = map (sample_number size b) row

  -- the number written in place of a number of the row
  abbrev pub written : ℕ → ℕ
  written = stored_difference Horizontal m (length numbers) s numbers

  number_at : (k : ℕ) (x : A) → k < length row → x ≡ get_or row k x
      → get_or numbers k 0 ≡ sample_number size b x
  number_at k x within is =
      get_or-map (sample_number size b) row k x 0 within ∙ ap (sample_number size b) (sym is)

  -- a sample whose bits are below the modulus is its own number
  plain : (x : A) → b x < m → sample_number size b x ≡ b x
  plain x h = ap (λ (q : ℕ). b x % q) (sym all) ∙ mod-eq_of_lt h

  -- the bytes of a sample before the stride
  pub first_bytes : (k : ℕ) (x : A) (part : List ℕ) → k < length row → k < s → x ≡ get_or row k x
      → part ≡ le size (b x) → part ≡ le size (written k)
  first_bytes k x part within below is e =
      let long : length numbers ≡ length row = length-map row (sample_number size b) in
      (spelled_by size (b x) part e).0
      ∙ ap (le size) (sym (first_kept m (length numbers) s numbers k (omega (arith, long, within)) below ∙ number_at k x within is))

  -- a sample from the stride on
  pub later_bytes : (k : ℕ) (x y d : A) (part : List ℕ) → k < length row → s ≤ k
      → x ≡ get_or row k x → y ≡ get_or row (k - s) y
      → b d ≡ (b x + m - b y) % m → b x < m → b y < m → part ≡ le size (b d)
      → part ≡ le size (written k)
  later_bytes k x y d part within after is_x is_y is_d low_x low_y e =
      let long : length numbers ≡ length row = length-map row (sample_number size b) in
      let one : get_or numbers k 0 ≡ b x = number_at k x within is_x ∙ plain x low_x in
      let other : get_or numbers (k - s) 0 ≡ b y =
      number_at (k - s) y (omega (arith, within)) is_y ∙ plain y low_y in
      e ∙ ap (le size) (is_d ∙ (λ i. (sym one i + m - sym other i) % m)
      ∙ sym (later_kept m (length numbers) s numbers k (omega (arith, long, within)) after))
