-- Numbers of a row, and their sums.
use Rattle.std.proofs.Common.{◌≡◌, inl, inr, ℕ, zero, suc, ◌+◌, ◌-◌, ◌*◌, ◌/◌, ◌%◌, ◌^◌, ◌<◌, ◌≤◌, List, ◌∷◌, ◌++◌, length, take, drop, get_or, map, refl, ap, sym, ◌∙◌, subst, arith, ⊎_elim, add-one, ◌⊎◌, replicate, Fits, w8}
use Rattle.std.proofs.lemmas.Bool.{cases_lt}
use Rattle.std.proofs.lemmas.List.Sums.{sum_by_push, sum_by-cons}
use Rattle.std.proofs.lemmas.List.{ext_get_or, get_or_past, get_or-take, get_or-drop, length-take-le, length-drop, length-append, take_at, drop_at, get_or-set_same, get_or-set_other}
use Rattle.std.proofs.lemmas.Slice.{take-put_mid_below, drop-put_mid}
use Rattle.std.proofs.Math.ListN.{set}
use borrow.Rule.Slice.PartMut.{put_mid, post_of}
use Rattle.std.proofs.lemmas.List.FromFn.{length-map-range_with_len, get_or-map-range_with_len}
use Rattle.std.proofs.lemmas.Nat.{mod-mul-add, div-mul-add, div-add-mod', mod_below, le-div, from_le_bytes-to_le_bytes_2, from_le_bytes-to_le_bytes_4, from_le_bytes-to_le_bytes_8, pow-add}
use Rattle.std.proofs.Math.Nat.{div-mul-le_self, mul-le-mul_right, mul-le-mul_left, pow-suc, mod-add-mod, mod-eq_of_lt, div-eq_of_lt, mul_comm, add-mul-div_left, add-mul-mod_self_left}
use Rattle.std.specs.Prelude.{sum_by}
use Rattle.std.specs.List.{range_with_len}
use Rattle.std.specs.Int.{Width, w16, w32, w64, from_le_bytes, to_le_bytes}
use Rattle.tiff_base.specs.lemmas.Common.{range_more}
use Rattle.tiff_base.specs.declared.tags.ByteOrder.{ByteOrder}
use Rattle.tiff_base.specs.declared.tags.ByteOrder.TheVariants.{LittleEndian, BigEndian}
use Rattle.tiff_base.specs.Number.{number}
use Rattle.tiff_base.specs.SourceAndSink.{bytes_at}
use Rattle.tiff_page.specs.Pixels.{tabulate, width_of, row_number, summed_number, summed_byte, joined_number}
use Rattle.tiff_page.specs.Row.{IsSize, RowReplaced, AddsNumber, TurnsNumber, SwapsBytes, ComplementsInvert, BytesOfNumbers}
use Rattle.std.proofs.lemmas.Simd.{put_chunk_whole, length-put_chunk, length-zip2, get_or-zip2, length-replicate, get_or-replicate}
use lib.Lanes.{zip2, put_chunk}

-- ---- bytes of a number

each_from : {A : Type 0} (n a : ℕ) (f g : ℕ → A) → ((j : ℕ) → a ≤ j → j < a + n → f j ≡ g j)
    → map f (range_with_len a n) ≡ map g (range_with_len a n)
each_from zero a f g e = refl
each_from (suc n) a f g e =
    λ i. e a (omega arith) (omega arith) i
    ∷ each_from n (a + 1) f g (λ j h l. e j (omega (arith, h)) (omega (arith, l))) i

pub each_same : {A : Type 0} (n : ℕ) (f g : ℕ → A) → ((j : ℕ) → j < n → f j ≡ g j)
    → tabulate n f ≡ tabulate n g
each_same n f g e = each_from n 0 f g (λ j h l. e j (omega (arith, l)))

-- numbers of the same bytes are the same
pub number_same : (order : ByteOrder) (size : ℕ) (new old : List ℕ) (k : ℕ)
    → ((i : ℕ) → k * size ≤ i → i < k * size + size → get_or new i 0 ≡ get_or old i 0)
    → row_number order size new k ≡ row_number order size old k
number_same order size new old k e =
    ap (number order (width_of size)) (each_same size (λ j. get_or new (k * size
    + j) 0) (λ j. get_or old (k * size + j) 0) (λ j h. e (k * size + j) (omega arith) (omega (arith, h))))

-- the bytes of a number are a part of the row
pub each_at : (size k : ℕ) (row : List ℕ) → (k + 1) * size ≤ length row
    → tabulate size (λ j. get_or row (k * size + j) 0) ≡ bytes_at row (k * size) size
each_at size k row h =
    let l : length (bytes_at row (k * size) size) ≡ size =
    length-take-le size (drop (k * size) row) (omega (arith, h, length-drop (k * size) row)) in
    let m : length (tabulate size (λ j. get_or row (k * size + j) 0)) ≡ size =
    length-map-range_with_len (λ j. get_or row (k * size + j) 0) 0 size in
    ext_get_or 0 (tabulate size (λ j. get_or row (k * size
    + j) 0)) (bytes_at row (k * size) size) (m ∙ sym l)
    (λ i b. let c : i < size = omega (arith, b, m) in
    get_or-map-range_with_len (λ j. get_or row (k * size + j) 0) 0 size i i 0 c (omega arith)
    ∙ sym (get_or-take size (drop (k * size) row) i 0 c ∙ get_or-drop (k * size) row i 0))

-- ---- the four sizes

-- the number of n digits, the least significant first
abbrev pub digits : (ℕ → ℕ) → ℕ → ℕ
digits f zero = 0
digits f (suc n) = digits f n + 256 ^ n * f n

-- facts of the four sizes
pub by_size : (P : ℕ → Type 0) (size : ℕ) → P 1 → P 2 → P 4 → P 8 → IsSize size → P size
by_size P size a b c d (inl e) = subst P (sym e) a
by_size P size a b c d (inr (inl e)) = subst P (sym e) b
by_size P size a b c d (inr (inr (inl e))) = subst P (sym e) c
by_size P size a b c d (inr (inr (inr e))) = subst P (sym e) d

pub little_digits : (size : ℕ) (f : ℕ → ℕ) → IsSize size
    → number LittleEndian (width_of size) (tabulate size f) ≡ digits f size
unfolding number
little_digits size f s =
    by_size (λ n. number LittleEndian (width_of n) (tabulate n f)
    ≡ digits f n) size (omega arith) (omega arith) (omega arith) (omega arith) s

-- the number with the most significant byte first is the reversed number with the least significant
-- byte first
pub big_as_little : (size : ℕ) (f : ℕ → ℕ) → IsSize size
    → number BigEndian (width_of size) (tabulate size f)
    ≡ number LittleEndian (width_of size) (tabulate size (λ j. f (size - 1 - j)))
unfolding number
big_as_little size f s =
    by_size (λ n. number BigEndian (width_of n) (tabulate n f)
    ≡ number LittleEndian (width_of n) (tabulate n (λ j. f (n - 1 - j)))) size (omega arith)
    (omega arith) (omega arith) (omega arith) s

pub digits_lt : (f : ℕ → ℕ) (n : ℕ) → ((j : ℕ) → f j < 256) → digits f n < 256 ^ n
digits_lt f zero b = omega arith
digits_lt f (suc n) b =
    let h : 256 ^ n * f n ≤ 256 ^ n * 255 = mul-le-mul_left (256 ^ n) (omega (arith, b n)) in
    omega (arith, digits_lt f n b, h, pow-suc 256 n)

pub number_lt : (size : ℕ) (row : List ℕ) (k : ℕ) → IsSize size → ((i : ℕ) → get_or row i 0 < 256)
    → row_number LittleEndian size row k < 256 ^ size
number_lt size row k s b =
    subst (λ (n : ℕ). n < 256 ^ size) (sym (little_digits size (λ j. get_or row (k * size + j) 0) s)) (digits_lt (λ j. get_or row (k * size + j) 0) size (λ j. b (k * size + j)))

pub one_number : (row : List ℕ) (k : ℕ) → row_number LittleEndian 1 row k ≡ get_or row k 0
unfolding number
one_number row k = let e : k * 1 + 0 ≡ k = omega arith in ap (λ (i : ℕ). get_or row i 0) e

-- ---- one number is added to another

number_in : (size : ℕ) (row : List ℕ) (k : ℕ) → (k + 1) * size ≤ length row
    → row_number LittleEndian size row k
    ≡ number LittleEndian (width_of size) (bytes_at row (k * size) size)
number_in size row k h = ap (number LittleEndian (width_of size)) (each_at size k row h)

pub put_there : (row part : List ℕ) (at k : ℕ) → at + k ≤ length row → length part ≡ k
    → bytes_at (put_mid at k row part) at k ≡ part
put_there row part at k h l =
    ap (take k) (drop_at (take at row) (part ++ post_of at k row) at (length-take-le at row (omega (arith, h)))) ∙ take_at part (post_of at k row) k l

pub put_below : (row part : List ℕ) (at k i : ℕ) → at ≤ length row → i < at
    → get_or (put_mid at k row part) i 0 ≡ get_or row i 0
put_below row part at k i h a =
    sym (get_or-take at (put_mid at k row part) i 0 a)
    ∙ ap (λ (xs : List ℕ). get_or xs i 0) (take-put_mid_below at k row part at (omega arith) h)
    ∙ get_or-take at row i 0 a

pub put_above : (row part : List ℕ) (at k i : ℕ) → at ≤ length row → length part ≡ k → at + k ≤ i
    → get_or (put_mid at k row part) i 0 ≡ get_or row i 0
put_above row part at k i h l a =
    let e : i ≡ at + k + (i - (at + k)) = omega (arith, a) in
    ap (λ (m : ℕ). get_or (put_mid at k row part) m 0) e
    ∙ sym (get_or-drop (at + k) (put_mid at k row part) (i - (at + k)) 0)
    ∙ ap (λ (xs : List ℕ). get_or xs (i - (at + k)) 0) (drop-put_mid at k row part (at
    + k) (omega arith) h l)
    ∙ get_or-drop (at + k) row (i - (at + k)) 0
    ∙ sym (ap (λ (m : ℕ). get_or row m 0) e)

length_put : (row part : List ℕ) (at k : ℕ) → at + k ≤ length row → length part ≡ k
    → length (put_mid at k row part) ≡ length row
length_put row part at k h l =
    length-append (take at row) (part ++ post_of at k row)
    ∙ omega (arith, length-append part (post_of at k row), length-take-le at row (omega (arith, h)), length-drop at row, length-drop k (drop at row), l, h)

adds : (size : ℕ) (old part : List ℕ) (from to a b n k : ℕ) → k ≡ size → length part ≡ size
    → from < to → (to + 1) * size ≤ length old
    → number LittleEndian (width_of size) part ≡ n → n ≡ (a + b) % 256 ^ size
    → a ≡ number LittleEndian (width_of size) (bytes_at old (from * size) size)
    → b ≡ number LittleEndian (width_of size) (bytes_at old (to * size) size)
    → AddsNumber size old from to (put_mid (to * size) k old part)
adds size old part from to a b n k e l f w p q x y =
    let g : (from + 1) * size ≤ to * size = mul-le-mul_right size (omega (arith, f)) in
    let z : length part ≡ k = omega (arith, l, e) in
    let v : to * size + k ≤ length old = omega (arith, w, e) in
    let there : bytes_at (put_mid (to * size) k old part) (to * size) size ≡ part =
    ap (λ (m : ℕ). bytes_at (put_mid (to * size) k old part) (to * size) m) (sym e)
    ∙ put_there old part (to * size) k v z in
    record {
      sum =
          number_in size (put_mid (to * size) k old part) to (omega (arith, w, length_put old part (to * size) k v z))
          ∙ ap (number LittleEndian (width_of size)) there ∙ p ∙ q
          ∙ ap (λ (m : ℕ). (m + b) % 256 ^ size) (x
          ∙ sym (number_in size old from (omega (arith, g, w))))
          ∙ ap (λ (m : ℕ). (row_number LittleEndian size old from + m) % 256 ^ size) (y
          ∙ sym (number_in size old to w));
      below = λ i h. put_below old part (to * size) k i (omega (arith, v)) h;
      above = λ i h. put_above old part (to * size) k i (omega (arith, v)) z (omega (arith, h, e));
    }

as_bytes : (w : Width) (part : List ℕ) → number LittleEndian w part ≡ from_le_bytes w part
unfolding number
as_bytes w part = refl

pub adds_1 : (old : List ℕ) (from to : ℕ) → (to + 1) * 1 ≤ length old
    → AddsNumber 1 old from to (set old to ((get_or old from 0 + get_or old to 0) % 256))
adds_1 old from to w =
    let l : to < length old = omega (arith, w) in
    record {
      sum =
          one_number (set old to ((get_or old from 0 + get_or old to 0) % 256)) to
          ∙ get_or-set_same old to ((get_or old from 0 + get_or old to 0) % 256) 0 l
          ∙ ap (λ (m : ℕ). (m + get_or old to 0) % 256) (sym (one_number old from))
          ∙ ap (λ (m : ℕ). (row_number LittleEndian 1 old from
          + m) % 256) (sym (one_number old to));
      below =
          λ i h. get_or-set_other old to i ((get_or old from 0
          + get_or old to 0) % 256) 0 (λ d. omega (arith, h, d));
      above =
          λ i h. get_or-set_other old to i ((get_or old from 0
          + get_or old to 0) % 256) 0 (λ d. omega (arith, h, d));
    }

pub adds_2 : (old part : List ℕ) (from to a b k : ℕ) → k ≡ 2 → from < to → (to + 1) * 2 ≤ length old
    → part ≡ to_le_bytes w16 ((a + b) % 2 ^ 16)
    → a ≡ number LittleEndian w16 (bytes_at old (from * 2) 2)
    → b ≡ number LittleEndian w16 (bytes_at old (to * 2) 2)
    → AddsNumber 2 old from to (put_mid (to * 2) k old part)
adds_2 old part from to a b k e f w p x y =
    adds 2 old part from to a b ((a + b) % 2 ^ 16) k e (ap length p) f w
    (as_bytes w16 part ∙ ap (from_le_bytes w16) p
    ∙ from_le_bytes-to_le_bytes_2 ((a + b) % 2 ^ 16) (mod_below (a + b) (2 ^ 16) (omega arith))) refl x y

pub adds_4 : (old part : List ℕ) (from to a b k : ℕ) → k ≡ 4 → from < to → (to + 1) * 4 ≤ length old
    → part ≡ to_le_bytes w32 ((a + b) % 2 ^ 32)
    → a ≡ number LittleEndian w32 (bytes_at old (from * 4) 4)
    → b ≡ number LittleEndian w32 (bytes_at old (to * 4) 4)
    → AddsNumber 4 old from to (put_mid (to * 4) k old part)
adds_4 old part from to a b k e f w p x y =
    adds 4 old part from to a b ((a + b) % 2 ^ 32) k e (ap length p) f w
    (as_bytes w32 part ∙ ap (from_le_bytes w32) p
    ∙ from_le_bytes-to_le_bytes_4 ((a + b) % 2 ^ 32) (mod_below (a + b) (2 ^ 32) (omega arith))) refl x y

pub adds_8 : (old part : List ℕ) (from to a b k : ℕ) → k ≡ 8 → from < to → (to + 1) * 8 ≤ length old
    → part ≡ to_le_bytes w64 ((a + b) % 2 ^ 64)
    → a ≡ number LittleEndian w64 (bytes_at old (from * 8) 8)
    → b ≡ number LittleEndian w64 (bytes_at old (to * 8) 8)
    → AddsNumber 8 old from to (put_mid (to * 8) k old part)
adds_8 old part from to a b k e f w p x y =
    adds 8 old part from to a b ((a + b) % 2 ^ 64) k e (ap length p) f w
    (as_bytes w64 part ∙ ap (from_le_bytes w64) p
    ∙ from_le_bytes-to_le_bytes_8 ((a + b) % 2 ^ 64) (mod_below (a + b) (2 ^ 64) (omega arith))) refl x y

-- ---- sums along a row

sum_more : (g : ℕ → ℕ) (n : ℕ)
    → sum_by g (range_with_len 0 (n + 1)) ≡ sum_by g (range_with_len 0 n) + g n
sum_more g n =
    ap (λ (m : ℕ). sum_by g (range_with_len 0 m)) (add-one n) ∙ ap (sum_by g) (range_more 0 n)
    ∙ sum_by_push g (range_with_len 0 n) (0 + n)
    ∙ (let z : 0 + n ≡ n = omega arith in ap (λ (m : ℕ). sum_by g (range_with_len 0 n) + g m) z)

-- f k, plus f at the positions before k that are whole pixels away
abbrev strided : (ℕ → ℕ) → ℕ → ℕ → ℕ
strided f s k = sum_by (λ c. f (c * s + k % s)) (range_with_len 0 (k / s + 1))

strided_first : (f : ℕ → ℕ) (s k : ℕ) → k < s → strided f s k ≡ f k
strided_first f s k h =
    let z : 0 * s + k ≡ k = omega arith in
    rw ((div-eq_of_lt h), mod-eq_of_lt h, z) (omega arith)

next_column : (k s : ℕ) → 0 < s → s ≤ k → (k / s ≡ (k - s) / s + 1) × (k % s ≡ (k - s) % s)
next_column k s p h =
    let e : k ≡ ((k - s) / s + 1) * s + (k - s) % s = omega (arith, div-add-mod' (k - s) s) in
    (ap (λ (m : ℕ). m / s) e ∙ div-mul-add ((k - s) / s + 1) s ((k - s) % s) (mod_below (k - s) s p), ap (λ (m : ℕ). m % s) e ∙ mod-mul-add ((k - s) / s + 1) s ((k - s) % s) (mod_below (k - s) s p))

strided_next : (f : ℕ → ℕ) (s k : ℕ) → 0 < s → s ≤ k → strided f s k ≡ strided f s (k - s) + f k
strided_next f s k p h =
    let e = next_column k s p h in
    let w : ((k - s) / s + 1) * s + (k - s) % s ≡ k = omega (arith, div-add-mod' (k - s) s) in
    rw (e.0, e.1) (sum_more (λ c. f (c * s + (k - s) % s)) ((k - s) / s + 1)
    ∙ ap (λ (m : ℕ). strided f s (k - s) + f m) w)

pub first_summed : (size s : ℕ) (old : List ℕ) (k : ℕ) → IsSize size
    → ((i : ℕ) → get_or old i 0 < 256) → k < s
    → row_number LittleEndian size old k ≡ summed_number LittleEndian size s old k
first_summed size s old k z b h =
    sym (ap (λ (m : ℕ). m % 256 ^ size) (strided_first (row_number LittleEndian size old) s k h)
    ∙ mod-eq_of_lt (number_lt size old k z b))

pub next_summed : (size s : ℕ) (old : List ℕ) (k : ℕ) → 0 < s → s ≤ k
    → summed_number LittleEndian size s old k
    ≡ (summed_number LittleEndian size s old (k - s)
    + row_number LittleEndian size old k) % 256 ^ size
next_summed size s old k p h =
    ap (λ (m : ℕ). m % 256 ^ size) (strided_next (row_number LittleEndian size old) s k p h)
    ∙ sym (mod-add-mod (strided (row_number LittleEndian size old) s (k - s)) (256 ^ size) (row_number LittleEndian size old k))

-- one more number of a row is summed
pub summed_more : (size s : ℕ) (old mid new : List ℕ) (k : ℕ) → 0 < s → s ≤ k
    → AddsNumber size mid (k - s) k new
    → ((j : ℕ) → j < k → row_number LittleEndian size mid j
    ≡ summed_number LittleEndian size s old j)
    → ((j : ℕ) → k ≤ j → row_number LittleEndian size mid j
    ≡ row_number LittleEndian size old j)
    → (j : ℕ) → j < k + 1 → row_number LittleEndian size new j
    ≡ summed_number LittleEndian size s old j
summed_more size s old mid new k p h a done rest j l =
    ⊎_elim
    (λ q.
    let m : (j + 1) * size ≤ k * size = mul-le-mul_right size (omega (arith, q)) in
    number_same LittleEndian size new mid j (λ i u v. a.below i (omega (arith, m, v))) ∙ done j q)
    (λ q.
    let e : k ≡ j = omega (arith, q, l) in
    subst (λ (i : ℕ). row_number LittleEndian size new i
    ≡ summed_number LittleEndian size s old i) e
    (a.sum ∙ ap (λ (m : ℕ). (m + row_number LittleEndian size mid k) % 256 ^ size) (done (k - s) (omega (arith, p, h)))
    ∙ ap (λ (m : ℕ). (summed_number LittleEndian size s old (k - s) + m) % 256 ^ size) (rest k (omega arith)) ∙ sym (next_summed size s old k p h)))
    (cases_lt j k)

pub rest_more : (size s : ℕ) (old mid new : List ℕ) (k : ℕ) → AddsNumber size mid (k - s) k new
    → ((j : ℕ) → k ≤ j → row_number LittleEndian size mid j ≡ row_number LittleEndian size old j)
    → (j : ℕ) → k + 1 ≤ j → row_number LittleEndian size new j ≡ row_number LittleEndian size old j
rest_more size s old mid new k a rest j l =
    number_same LittleEndian size new mid j (λ i u v. a.above i (omega (arith, mul-le-mul_right size l, u))) ∙ rest j (omega (arith, l))

pub behind_more : (size s count : ℕ) (old mid new : List ℕ) (k : ℕ)
    → AddsNumber size mid (k - s) k new → k < count
    → ((i : ℕ) → count * size ≤ i → get_or mid i 0 ≡ get_or old i 0)
    → (i : ℕ) → count * size ≤ i → get_or new i 0 ≡ get_or old i 0
behind_more size s count old mid new k a h rest i l =
    let m : (k + 1) * size ≤ count * size = mul-le-mul_right size (omega (arith, h)) in
    a.above i (omega (arith, m, l)) ∙ rest i l

pub number_within : (k size len : ℕ) → k < len / size → (k + 1) * size ≤ len
number_within k size len h =
    let m : (k + 1) * size ≤ len / size * size =
    mul-le-mul_right size (omega (arith, h)) in omega (arith, m, div-mul-le_self len size)

pub number_before : (k size len : ℕ) → 0 < size → (k + 1) * size ≤ len → k < len / size
number_before k size len p h = omega (arith, le-div (k + 1) len size p h)

pub some_size : (size : ℕ) → IsSize size → 0 < size
some_size size s =
    by_size (λ n. 0 < n) size (omega arith) (omega arith) (omega arith) (omega arith) s

-- ---- the byte-plane predictor

sum_from : (n a : ℕ) (f g : ℕ → ℕ) → ((j : ℕ) → f j ≡ g (j + 1))
    → sum_by g (range_with_len (a + 1) n) ≡ sum_by f (range_with_len a n)
sum_from zero a f g e = refl
sum_from (suc n) a f g e =
    sum_by-cons g (a + 1) (range_with_len (a + 1 + 1) n)
    ∙ (λ i. sym (e a) i + sum_from n (a + 1) f g e i)
    ∙ sym (sum_by-cons f a (range_with_len (a + 1) n))

pub sum_same : (n a : ℕ) (f g : ℕ → ℕ) → ((j : ℕ) → a ≤ j → j < a + n → f j ≡ g j)
    → sum_by f (range_with_len a n) ≡ sum_by g (range_with_len a n)
sum_same zero a f g e = refl
sum_same (suc n) a f g e =
    sum_by-cons f a (range_with_len (a + 1) n)
    ∙ (λ i. e a (omega arith) (omega arith) i
    + sum_same n (a + 1) f g (λ j h l. e j (omega (arith, h)) (omega (arith, l))) i)
    ∙ sym (sum_by-cons g a (range_with_len (a + 1) n))

-- the sum from its last number back
back : (f : ℕ → ℕ) (s r c : ℕ)
    → sum_by (λ n. f (c * s + r - n * s)) (range_with_len 0 (suc c))
    ≡ sum_by (λ n. f (n * s + r)) (range_with_len 0 (suc c))
back f s r zero =
    sum_same 1 0 (λ n. f (0 * s + r - n * s)) (λ n. f (n * s
    + r)) (λ j h l. (let z : j ≡ 0 = omega (arith, l) in let y : 0 * s + r - 0 * s ≡ 0 * s + r = omega arith in subst (λ (n : ℕ). f (0 * s + r - n * s) ≡ f (n * s + r)) (sym z) (ap f y)))
back f s r (suc c) =
    let here : suc c * s + r - 0 * s ≡ suc c * s + r = omega arith in
    let first : sum_by (λ n. f (suc c * s + r - n * s)) (range_with_len (0 + 1) (suc c))
    ≡ sum_by (λ n. f (c * s + r - n * s)) (range_with_len 0 (suc c)) =
    sum_from (suc c) 0 (λ n. f (c * s + r - n * s)) (λ n. f (suc c * s
    + r - n * s)) (λ j. (let e : c * s + r - j * s ≡ suc c * s + r - (j + 1) * s = omega arith in ap f e)) in
    let a : sum_by (λ n. f (suc c * s + r - n * s)) (range_with_len 0 (suc (suc c)))
    ≡ f (suc c * s + r) + sum_by (λ n. f (n * s + r)) (range_with_len 0 (suc c)) =
    sum_by-cons (λ n. f (suc c * s + r - n * s)) 0 (range_with_len (0 + 1) (suc c))
    ∙ (λ i. f (here i) + (first ∙ back f s r c) i) in
    let b : sum_by (λ n. f (n * s + r)) (range_with_len 0 (suc (suc c)))
    ≡ sum_by (λ n. f (n * s + r)) (range_with_len 0 (suc c)) + f (suc c * s + r) =
    ap (sum_by (λ n. f (n * s + r))) (range_more 0 (suc c))
    ∙ sum_by_push (λ n. f (n * s + r)) (range_with_len 0 (suc c)) (0 + suc c)
    ∙ (let z : 0 + suc c ≡ suc c = omega arith in ap (λ (m : ℕ). sum_by (λ n. f (n * s + r)) (range_with_len 0 (suc c)) + f (m * s + r)) z) in
    omega (arith, a, b)

pub summed_is : (s : ℕ) (old : List ℕ) (k : ℕ)
    → summed_number LittleEndian 1 s old k ≡ summed_byte s old k
summed_is s old k =
    let bytes : sum_by (λ c. row_number LittleEndian 1 old (c * s + k % s)) (range_with_len 0 (k / s
    + 1)) ≡ sum_by (λ c. get_or old (c * s + k % s) 0) (range_with_len 0 (k / s + 1)) =
    sum_same (k / s + 1) 0 (λ c. row_number LittleEndian 1 old (c * s
    + k % s)) (λ c. get_or old (c * s + k % s) 0) (λ c h l. one_number old (c * s + k % s)) in
    ap (λ (m : ℕ). m % 256)
    (bytes
    ∙ ap (λ (n : ℕ). sum_by (λ c. get_or old (c * s
    + k % s) 0) (range_with_len 0 n)) (add-one (k / s))
    ∙ sym (back (λ m. get_or old m 0) s (k % s) (k / s))
    ∙ ap (λ (n : ℕ). sum_by (λ c. get_or old (k / s * s
    + k % s - c * s) 0) (range_with_len 0 n)) (sym (add-one (k / s)))
    ∙ ap (λ (m : ℕ). sum_by (λ c. get_or old (m - c * s) 0) (range_with_len 0 (k / s + 1))) (div-add-mod' k s))

-- ---- rows of the same numbers

pub sums_same : (order other : ByteOrder) (size s : ℕ) (new old : List ℕ) (k n : ℕ)
    → ((j : ℕ) → (j + 1) * size ≤ n → row_number order size new j ≡ row_number other size old j)
    → (k + 1) * size ≤ n
    → summed_number order size s new k ≡ summed_number other size s old k
sums_same order other size s new old k n e h =
    ap (λ (m : ℕ). m % 256 ^ size)
    (sum_same (k / s + 1) 0 (λ c. row_number order size new (c * s
    + k % s)) (λ c. row_number other size old (c * s + k % s))
    (λ c u l.
    let m : c * s ≤ k / s * s = mul-le-mul_right s (omega (arith, l)) in
    let o : (c * s + k % s + 1) * size ≤ (k + 1) * size =
    mul-le-mul_right size (omega (arith, m, div-add-mod' k s)) in
    e (c * s + k % s) (omega (arith, o, h))))

pub joins_same : (size s count : ℕ) (new old : List ℕ) (k n : ℕ)
    → ((i : ℕ) → i < n → get_or new i 0 ≡ get_or old i 0) → k < count → size * count ≤ n
    → joined_number size s count new k ≡ joined_number size s count old k
joins_same size s count new old k n e h w =
    ap (number BigEndian (width_of size))
    (each_same size (λ j. summed_byte s new (j * count + k)) (λ j. summed_byte s old (j * count
    + k))
    (λ j l.
    let o : (j + 1) * count ≤ size * count = mul-le-mul_right count (omega (arith, l)) in
    ap (λ (m : ℕ). m % 256)
    (sum_same ((j * count + k) / s + 1) 0 (λ i. get_or new (j * count
    + k - i * s) 0) (λ i. get_or old (j * count + k - i * s) 0)
    (λ i a b. e (j * count + k - i * s) (omega (arith, o, h, w))))))

-- where a byte of a plane is
pub plane_within : (size count j k len : ℕ) → j < size → k < count → size * count ≤ len
    → (size - 1 - j) * count + k < len
plane_within size count j k len a b h =
    let n : (size - 1 - j) * count ≤ (size - 1) * count = mul-le-mul_right count (omega arith) in
    let t : (size - 1) * count + count ≡ size * count =
    (let u : size ≡ (size - 1) + 1 = omega (arith, a) in sym (ap (λ (x : ℕ). x * count) u ∙ omega arith)) in
    omega (arith, n, t, b, h)

pub planes_fit : (size len : ℕ) → size * (len / size) ≤ len
planes_fit size len = omega (arith, div-mul-le_self len size, mul_comm size (len / size))

pub put_at : (row part : List ℕ) (at k j : ℕ) → at + k ≤ length row → length part ≡ k → j < k
    → get_or (put_mid at k row part) (at + j) 0 ≡ get_or part j 0
put_at row part at k j h l b =
    sym (get_or-drop at (put_mid at k row part) j 0)
    ∙ sym (get_or-take k (drop at (put_mid at k row part)) j 0 b)
    ∙ ap (λ (xs : List ℕ). get_or xs j 0) (put_there row part at k h l)

-- one more number of planes is joined
pub join_more : (size count k n m : ℕ) (planes row part : List ℕ) → n ≡ size → m ≡ size
    → length part ≡ size → (k + 1) * size ≤ length row
    → ((j : ℕ) → j < length part → get_or part j 0 ≡ get_or planes ((m - 1 - j) * count + k) 0)
    → ((i : ℕ) → i < k → (j : ℕ) → j < size → get_or row (i * size + j) 0
    ≡ get_or planes ((size - 1 - j) * count + i) 0)
    → (i : ℕ) → i < k + 1 → (j : ℕ) → j < size
    → get_or (put_mid (k * size) n row part) (i * size + j) 0
    ≡ get_or planes ((size - 1 - j) * count + i) 0
join_more size count k n m planes row part e f l w next done i b j c =
    let v : k * size + n ≤ length row = omega (arith, w, e) in
    ⊎_elim
    (λ q. (let u : (i + 1) * size ≤ k * size = mul-le-mul_right size (omega (arith, q)) in
    put_below row part (k * size) n (i * size + j) (omega (arith, v)) (omega (arith, u, c)) ∙ done i q j c))
    (λ q. (let g : k ≡ i = omega (arith, q, b) in
    subst (λ (x : ℕ). get_or (put_mid (k * size) n row part) (x * size + j) 0
    ≡ get_or planes ((size - 1 - j) * count + x) 0) g
    (put_at row part (k * size) n j v (omega (arith, l, e)) (omega (arith, c, e)) ∙ next j (omega (arith, c, l)) ∙ ap (λ (x : ℕ). get_or planes ((x - 1 - j) * count + k) 0) f)))
    (cases_lt i k)

-- the numbers of planes that are joined
pub joined : (size s : ℕ) (old mid planes new : List ℕ) → IsSize size
    → length old / size * size ≡ length old → length mid ≡ length old → length new ≡ length old
    → ((k : ℕ) → (k + 1) * 1 ≤ length old → row_number LittleEndian 1 mid k
    ≡ summed_number LittleEndian 1 s old k) → planes ≡ mid
    → ((k : ℕ) → k < length planes / size → (j : ℕ) → j < size
    → get_or new (k * size + j) 0 ≡ get_or planes ((size - 1 - j) * (length planes / size) + k) 0)
    → RowReplaced size (joined_number size s (length old / size) old) old new
joined size s old mid planes new z whole l m sums e each =
    let count = length old / size in
    let counts : length planes / size ≡ count = ap (λ (n : ℕ). n / size) (ap length e ∙ l) in
    let at_number : (k : ℕ) → (k + 1) * size ≤ length old → (j : ℕ) → j < size
    → get_or new (k * size + j) 0 ≡ summed_byte s old ((size - 1 - j) * count + k) =
    λ k h j b.
    let c : k < count = number_before k size (length old) (some_size size z) h in
    let v : (size - 1 - j) * count + k < length old =
    plane_within size count j k (length old) b c (planes_fit size (length old)) in
    each k (omega (arith, c, counts)) j b
    ∙ (λ i. get_or (e i) ((size - 1 - j) * counts i + k) 0)
    ∙ sym (one_number mid ((size - 1 - j) * count + k))
    ∙ sums ((size - 1 - j) * count + k) (omega (arith, v))
    ∙ summed_is s old ((size - 1 - j) * count + k) in
    record {
      numbers = λ k h.
          ap (number LittleEndian (width_of size)) (each_same size (λ j. get_or new (k * size
          + j) 0) (λ j. summed_byte s old ((size - 1 - j) * count + k)) (λ j b. at_number k h j b))
          ∙ sym (big_as_little size (λ j. summed_byte s old (j * count + k)) z);
      behind =
          λ i h. get_or_past new i 0 (omega (arith, h, whole, m))
          ∙ sym (get_or_past old i 0 (omega (arith, h, whole)));
    }

-- ---- numbers in the other byte order

pub stayed : (size : ℕ) (old : List ℕ) → RowReplaced size (row_number LittleEndian size old) old old
stayed size old = record { numbers = λ k h. refl; behind = λ i h. refl }

-- a number of one byte is the same in either order
one_byte : (order : ByteOrder) (old : List ℕ) (k : ℕ)
    → row_number LittleEndian 1 old k ≡ row_number order 1 old k
unfolding number
one_byte LittleEndian old k = refl
one_byte BigEndian old k = refl

pub bytes_stayed : (order : ByteOrder) (size : ℕ) (old : List ℕ) → size ≡ 1
    → RowReplaced size (row_number order size old) old old
bytes_stayed order size old e =
    subst (λ (n : ℕ). RowReplaced n (row_number order n old) old old) (sym e)
    (record { numbers = λ k h. one_byte order old k; behind = λ i h. refl })

turns : (size : ℕ) (row old part : List ℕ) (at n k : ℕ) → k ≡ size → length part ≡ size
    → (at + 1) * size ≤ length row → length old ≡ length row
    → number LittleEndian (width_of size) part ≡ n
    → n ≡ number BigEndian (width_of size) (bytes_at row (at * size) size)
    → TurnsNumber size row at old (put_mid (at * size) k old part)
turns size row old part at n k e l w same p q =
    let z : length part ≡ k = omega (arith, l, e) in
    let v : at * size + k ≤ length old = omega (arith, w, e, same) in
    let there : bytes_at (put_mid (at * size) k old part) (at * size) size ≡ part =
    ap (λ (m : ℕ). bytes_at (put_mid (at * size) k old part) (at * size) m) (sym e)
    ∙ put_there old part (at * size) k v z in
    record {
      turned =
          number_in size (put_mid (at * size) k old part) at (omega (arith, w, same, length_put old part (at * size) k v z))
          ∙ ap (number LittleEndian (width_of size)) there ∙ p ∙ q
          ∙ sym (ap (number BigEndian (width_of size)) (each_at size at row w));
      below = λ i h. put_below old part (at * size) k i (omega (arith, v)) h;
      above = λ i h. put_above old part (at * size) k i (omega (arith, v)) z (omega (arith, h, e));
    }

pub turns_2 : (row old part : List ℕ) (at n k : ℕ) → k ≡ 2 → (at + 1) * 2 ≤ length row
    → length old ≡ length row → n < 2 ^ 16 → part ≡ to_le_bytes w16 n
    → n ≡ number BigEndian w16 (bytes_at row (at * 2) 2)
    → TurnsNumber 2 row at old (put_mid (at * 2) k old part)
turns_2 row old part at n k e w l b p q =
    turns 2 row old part at n k e (ap length p) w l (as_bytes w16 part ∙ ap (from_le_bytes w16) p
    ∙ from_le_bytes-to_le_bytes_2 n b) q

pub turns_4 : (row old part : List ℕ) (at n k : ℕ) → k ≡ 4 → (at + 1) * 4 ≤ length row
    → length old ≡ length row → n < 2 ^ 32 → part ≡ to_le_bytes w32 n
    → n ≡ number BigEndian w32 (bytes_at row (at * 4) 4)
    → TurnsNumber 4 row at old (put_mid (at * 4) k old part)
turns_4 row old part at n k e w l b p q =
    turns 4 row old part at n k e (ap length p) w l (as_bytes w32 part ∙ ap (from_le_bytes w32) p
    ∙ from_le_bytes-to_le_bytes_4 n b) q

pub turns_8 : (row old part : List ℕ) (at n k : ℕ) → k ≡ 8 → (at + 1) * 8 ≤ length row
    → length old ≡ length row → n < 2 ^ 64 → part ≡ to_le_bytes w64 n
    → n ≡ number BigEndian w64 (bytes_at row (at * 8) 8)
    → TurnsNumber 8 row at old (put_mid (at * 8) k old part)
turns_8 row old part at n k e w l b p q =
    turns 8 row old part at n k e (ap length p) w l (as_bytes w64 part ∙ ap (from_le_bytes w64) p
    ∙ from_le_bytes-to_le_bytes_8 n b) q

-- one more number is byte-swapped
pub turned_more : (size : ℕ) (row mid new : List ℕ) (k : ℕ) → TurnsNumber size row k mid new
    → ((j : ℕ) → j < k → row_number LittleEndian size mid j ≡ row_number BigEndian size row j)
    → (j : ℕ) → j < k + 1 → row_number LittleEndian size new j ≡ row_number BigEndian size row j
turned_more size row mid new k a done j l =
    ⊎_elim
    (λ q.
    let m : (j + 1) * size ≤ k * size = mul-le-mul_right size (omega (arith, q)) in
    number_same LittleEndian size new mid j (λ i u v. a.below i (omega (arith, m, v))) ∙ done j q)
    (λ q.
    let e : k ≡ j = omega (arith, q, l) in
    subst (λ (i : ℕ). row_number LittleEndian size new i ≡ row_number BigEndian size row i) e a.turned)
    (cases_lt j k)

-- a row of numbers of one byte is the same in either order
pub bytes_turned : (size : ℕ) (row : List ℕ) → size ≡ 1 → SwapsBytes size row row
bytes_turned size row e =
    subst (λ (n : ℕ). SwapsBytes n row row) (sym e) (λ k h. one_byte BigEndian row k)

-- ---- the pixels of a row of bytes, summed one by one

-- one more byte of a pixel is summed
pub byte_done : (old_last old_pixel last pixel : List ℕ) (j : ℕ) → j < length pixel
    → ((i : ℕ) → i < j → get_or pixel i 0 ≡ (get_or old_last i 0 + get_or old_pixel i 0) % 256)
    → ((i : ℕ) → j ≤ i → get_or pixel i 0 ≡ get_or old_pixel i 0)
    → ((i : ℕ) → j ≤ i → get_or last i 0 ≡ get_or old_last i 0)
    → (i : ℕ) → i < j + 1 → get_or (set pixel j ((get_or last j 0 + get_or pixel j 0) % 256)) i 0
    ≡ (get_or old_last i 0 + get_or old_pixel i 0) % 256
byte_done old_last old_pixel last pixel j l done rest kept i h =
    let v = (get_or last j 0 + get_or pixel j 0) % 256 in
    ⊎_elim
    (λ q. get_or-set_other pixel j i v 0 (λ d. omega (arith, q, d)) ∙ done i q)
    (λ q. (let e : j ≡ i = omega (arith, q, h) in
    subst (λ (m : ℕ). get_or (set pixel j v) m 0
    ≡ (get_or old_last m 0 + get_or old_pixel m 0) % 256) e
    (get_or-set_same pixel j v 0 l ∙ ap (λ (m : ℕ). (m
    + get_or pixel j 0) % 256) (kept j (omega arith))
    ∙ ap (λ (m : ℕ). (get_or old_last j 0 + m) % 256) (rest j (omega arith)))))
    (cases_lt i j)

pub byte_held : (last pixel : List ℕ) (j v : ℕ) → j < length last → j < length pixel
    → ((i : ℕ) → i < j → get_or last i 0 ≡ get_or pixel i 0)
    → (i : ℕ) → i < j + 1 → get_or (set last j v) i 0 ≡ get_or (set pixel j v) i 0
byte_held last pixel j v l m held i h =
    ⊎_elim
    (λ q. get_or-set_other last j i v 0 (λ d. omega (arith, q, d)) ∙ held i q
    ∙ sym (get_or-set_other pixel j i v 0 (λ d. omega (arith, q, d))))
    (λ q. (let e : j ≡ i = omega (arith, q, h) in
    subst (λ (n : ℕ). get_or (set last j v) n 0 ≡ get_or (set pixel j v) n 0) e (get_or-set_same last j v 0 l ∙ sym (get_or-set_same pixel j v 0 m))))
    (cases_lt i j)

pub byte_kept : (old xs : List ℕ) (j v : ℕ) → ((i : ℕ) → j ≤ i → get_or xs i 0 ≡ get_or old i 0)
    → (i : ℕ) → j + 1 ≤ i → get_or (set xs j v) i 0 ≡ get_or old i 0
byte_kept old xs j v kept i h =
    get_or-set_other xs j i v 0 (λ d. omega (arith, h, d)) ∙ kept i (omega (arith, h))

-- these bytes, plus those of a pixel, are its sums
abbrev pub CarriesTo : ℕ → List ℕ → List ℕ → ℕ → Type 0
CarriesTo s old last k =
    (j : ℕ) → j < s → (get_or last j 0 + get_or old (k * s + j) 0) % 256
    ≡ summed_number LittleEndian 1 s old (k * s + j)

pub carries_first : (s : ℕ) (old last : List ℕ) → ((i : ℕ) → get_or old i 0 < 256)
    → ((j : ℕ) → j < s → get_or last j 0 ≡ 0) → CarriesTo s old last 0
carries_first s old last b z j h =
    let e : 0 * s + j ≡ j = omega arith in
    let w : (0 + get_or old j 0) % 256 ≡ get_or old j 0 = omega (arith, b j) in
    subst (λ (i : ℕ). (get_or last j 0 + get_or old i 0) % 256
    ≡ summed_number LittleEndian 1 s old i) (sym e)
    (ap (λ (m : ℕ). (m + get_or old j 0) % 256) (z j h) ∙ w ∙ sym (one_number old j)
    ∙ first_summed 1 s old j (inl refl) b h)

pub carries_next : (s : ℕ) (old last : List ℕ) (k : ℕ) → 0 < s
    → ((j : ℕ) → j < s → get_or last j 0 ≡ summed_number LittleEndian 1 s old (k * s + j))
    → CarriesTo s old last (k + 1)
carries_next s old last k p e j h =
    let i = (k + 1) * s + j in
    let d : k * s + j ≡ i - s = omega arith in
    ap (λ (m : ℕ). (m + get_or old i 0) % 256) (e j h ∙ ap (summed_number LittleEndian 1 s old) d)
    ∙ ap (λ (m : ℕ). (summed_number LittleEndian 1 s old (i - s)
    + m) % 256) (sym (one_number old i))
    ∙ sym (next_summed 1 s old i p (omega arith))

at_pixel : (s k n : ℕ) (old row part last : List ℕ) → n ≡ s → length part ≡ s
    → (k + 1) * s ≤ length row
    → ((j : ℕ) → j < length part → get_or part j 0
    ≡ (get_or last j 0 + get_or (take n (drop (k * s) row)) j 0) % 256)
    → CarriesTo s old last k → ((i : ℕ) → k * s ≤ i → get_or row i 0 ≡ get_or old i 0)
    → (j : ℕ) → j < s → get_or (put_mid (k * s) n row part) (k * s + j) 0
    ≡ summed_number LittleEndian 1 s old (k * s + j)
at_pixel s k n old row part last e l w sums carries rest j h =
    put_at row part (k * s) n j (omega (arith, w, e)) (omega (arith, l, e)) (omega (arith, h, e))
    ∙ sums j (omega (arith, h, l))
    ∙ ap (λ (m : ℕ). (get_or last j 0 + m) % 256)
    (get_or-take n (drop (k * s) row) j 0 (omega (arith, h, e)) ∙ get_or-drop (k * s) row j 0
    ∙ rest (k * s + j) (omega arith))
    ∙ carries j h

-- one more pixel is summed
pub pixel_done : (s k n : ℕ) (old row part last : List ℕ) → n ≡ s → length part ≡ s
    → (k + 1) * s ≤ length row
    → ((j : ℕ) → j < length part → get_or part j 0
    ≡ (get_or last j 0 + get_or (take n (drop (k * s) row)) j 0) % 256)
    → CarriesTo s old last k
    → ((i : ℕ) → i < k * s → get_or row i 0 ≡ summed_number LittleEndian 1 s old i)
    → ((i : ℕ) → k * s ≤ i → get_or row i 0 ≡ get_or old i 0)
    → (i : ℕ) → i < (k + 1) * s → get_or (put_mid (k * s) n row part) i 0
    ≡ summed_number LittleEndian 1 s old i
pixel_done s k n old row part last e l w sums carries done rest i h =
    ⊎_elim
    (λ q. put_below row part (k * s) n i (omega (arith, w)) q ∙ done i q)
    (λ q. (let d : k * s + (i - k * s) ≡ i = omega (arith, q) in
    subst (λ (m : ℕ). get_or (put_mid (k * s) n row part) m 0
    ≡ summed_number LittleEndian 1 s old m) d
    (at_pixel s k n old row part last e l w sums carries rest (i - k * s) (omega (arith, q, h)))))
    (cases_lt i (k * s))

pub pixel_rest : (s k n : ℕ) (old row part : List ℕ) → n ≡ s → length part ≡ s
    → (k + 1) * s ≤ length row
    → ((i : ℕ) → k * s ≤ i → get_or row i 0 ≡ get_or old i 0)
    → (i : ℕ) → (k + 1) * s ≤ i → get_or (put_mid (k * s) n row part) i 0 ≡ get_or old i 0
pixel_rest s k n old row part e l w rest i h =
    put_above row part (k * s) n i (omega (arith, w, e)) (omega (arith, l, e)) (omega (arith, h, e))
    ∙ rest i (omega (arith, h))

-- the sums of a pixel are the sums for the next one
pub pixel_carries : (s k n : ℕ) (old row part last next : List ℕ) → n ≡ s → length part ≡ s
    → (k + 1) * s ≤ length row → 0 < s
    → ((j : ℕ) → j < length part → get_or part j 0
    ≡ (get_or last j 0 + get_or (take n (drop (k * s) row)) j 0) % 256)
    → ((j : ℕ) → j < length part → get_or next j 0 ≡ get_or part j 0)
    → CarriesTo s old last k → ((i : ℕ) → k * s ≤ i → get_or row i 0 ≡ get_or old i 0)
    → CarriesTo s old next (k + 1)
pixel_carries s k n old row part last next e l w p sums held carries rest =
    carries_next s old next k p (λ j h.
    held j (omega (arith, h, l))
    ∙ sym (put_at row part (k * s) n j (omega (arith, w, e)) (omega (arith, l, e)) (omega (arith, h, e)))
    ∙ at_pixel s k n old row part last e l w sums carries rest j h)

-- all pixels are summed
pub all_summed : (s : ℕ) (old new : List ℕ) → length old / s * s ≡ length old
    → ((i : ℕ) → i < length old / s * s → get_or new i 0 ≡ summed_number LittleEndian 1 s old i)
    → ((i : ℕ) → length old / s * s ≤ i → get_or new i 0 ≡ get_or old i 0)
    → RowReplaced 1 (summed_number LittleEndian 1 s old) old new
all_summed s old new whole done rest = record {
  numbers = λ k h. one_number new k ∙ done k (omega (arith, h, whole));
  behind = λ i h. rest i (omega (arith, h, whole));
}

-- ---- the bytes of the numbers of a row

-- complements, digit by digit
pub complemented : (f g : ℕ → ℕ) (n : ℕ) → ((j : ℕ) → j < n → f j ≡ 255 - g j)
    → ((j : ℕ) → g j < 256) → digits f n + digits g n + 1 ≡ 256 ^ n
complemented f g zero e b = omega arith
complemented f g (suc n) e b =
    let d : 256 ^ n * (f n + g n) ≡ 256 ^ n * 255 =
    (let q : f n + g n ≡ 255 = omega (arith, e n (omega arith), b n) in ap (λ (m : ℕ). 256 ^ n * m) q) in
    omega (arith, d, complemented f g n (λ j h. e j (omega (arith, h))) b, pow-suc 256 n)

pub complements_invert : ComplementsInvert
complements_invert size old new k z b e w =
    let f : ℕ → ℕ = λ j. get_or new (k * size + j) 0 in
    let g : ℕ → ℕ = λ j. get_or old (k * size + j) 0 in
    let c : digits f size + digits g size + 1 ≡ 256 ^ size =
    complemented f g size (λ j h. e (k * size + j) (omega (arith, h, w))) (λ j. b (k * size
    + j)) in
    little_digits size f z ∙ omega (arith, c)
    ∙ sym (ap (λ (m : ℕ). 256 ^ size - 1 - m) (little_digits size g z))

pub power_pos : (n : ℕ) → 0 < 256 ^ n
power_pos zero = omega arith
power_pos (suc n) = omega (arith, power_pos n, pow-suc 256 n)

digit_by : (f : ℕ → ℕ) (n j : ℕ) → ((i : ℕ) → f i < 256) → (j < n) ⊎ (n ≤ j) → j < suc n
    → (j < n → digits f n / 256 ^ j % 256 ≡ f j) → digits f (suc n) / 256 ^ j % 256 ≡ f j
digit_by f n j b (inl l) h e =
    let m : n ≡ j + (1 + (n - j - 1)) = omega (arith, l) in
    let q : digits f (suc n) ≡ digits f n + 256 ^ j * (256 * (256 ^ (n - j - 1) * f n)) =
    ap (λ (k : ℕ). digits f n + k * f n) (ap (λ (k : ℕ). 256 ^ k) m
    ∙ pow-add 256 j (1 + (n - j - 1)) ∙ ap (λ (k : ℕ). 256 ^ j * k) (pow-add 256 1 (n - j - 1)))
    ∙ omega arith in
    ap (λ (k : ℕ). k / 256 ^ j % 256) q
    ∙ ap (λ (k : ℕ). k % 256) (add-mul-div_left (digits f n) (256 * (256 ^ (n - j - 1) * f n)) (power_pos j))
    ∙ add-mul-mod_self_left (digits f n / 256 ^ j) 256 (256 ^ (n - j - 1) * f n) ∙ e l
digit_by f n j b (inr g) h e =
    let m : j ≡ n = omega (arith, g, h) in
    let q : digits f (suc n) ≡ f n * 256 ^ n + digits f n = omega arith in
    ap (λ (k : ℕ). digits f (suc n) / 256 ^ k % 256) m
    ∙ ap (λ (k : ℕ). k / 256 ^ n % 256) q
    ∙ ap (λ (k : ℕ). k % 256) (div-mul-add (f n) (256 ^ n) (digits f n) (digits_lt f n b))
    ∙ mod-eq_of_lt (b n) ∙ ap f (sym m)

pub digit : (f : ℕ → ℕ) (n j : ℕ) → ((i : ℕ) → f i < 256) → j < n → digits f n / 256 ^ j % 256 ≡ f j
digit f zero j b h = absurd (omega (arith, h))
digit f (suc n) j b h = digit_by f n j b (cases_lt j n) h (digit f n j b)

pub bytes_of_numbers : BytesOfNumbers
bytes_of_numbers size row k j z b h =
    let f : ℕ → ℕ = λ i. get_or row (k * size + i) 0 in
    sym (ap (λ (m : ℕ). m / 256 ^ j % 256) (little_digits size f z)
    ∙ digit f size j (λ i. b (k * size + i)) h)

-- ---- complements of bytes

-- The bytes of a row below a position are complemented, and the others are unchanged.
pub record Upto (n : ℕ) (old new : List ℕ) : Type 0 where
  pub long : length new ≡ length old
  pub done : (i : ℕ) → i < n → i < length old → get_or new i 0 ≡ 255 - get_or old i 0
  pub rest : (i : ℕ) → n ≤ i → i < length old → get_or new i 0 ≡ get_or old i 0

-- each lane of 255, less the byte
pub complements : (xs : List ℕ) → length xs ≡ 16 → ((k : ℕ) → Fits w8 (get_or xs k 0)) → let v =
    zip2 (λ a b. (a + (2 ^ 8 - b)) % 2 ^ 8) (replicate 16 255) (take 16 xs) in
    (i : ℕ) → i < length (put_chunk 0 xs v) → get_or (put_chunk 0 xs v) i 0 ≡ 255 - get_or xs i 0
complements xs long fits i h =
    let f : ℕ → ℕ → ℕ = λ a b. (a + (2 ^ 8 - b)) % 2 ^ 8 in
    let t : length (take 16 xs) ≡ 16 = length-take-le 16 xs (omega (arith, long)) in
    let most : ℕ = 255 in
    let all : List ℕ = replicate 16 most in
    let r : length all ≡ 16 = length-replicate 16 most in
    let v : List ℕ = zip2 f all (take 16 xs) in
    let lv : length v ≡ 16 = length-zip2 f all (take 16 xs) (omega (arith, r, t)) ∙ r in
    let low : i < 16 = omega (arith, h, length-put_chunk 0 xs v, long) in
    ap (λ (l : List ℕ). get_or l i 0) (put_chunk_whole xs v (long ∙ sym lv))
    ∙ get_or-zip2 f all (take 16 xs) i 0 0 0 (omega (arith, low, r)) (omega (arith, low, t))
    ∙ (λ j. f (get_or-replicate 16 i most 0 low j) (get_or-take 16 xs i 0 low j))
    ∙ omega (arith, (fits i).fits)
