-- The sums of Adler-32, byte by byte.
use Rattle.std.proofs.Common.{◌≡◌, ℕ, suc, ◌+◌, ◌*◌, ◌%◌, ◌<◌, List, [], ◌∷◌, ◌++◌, length, map, take, get_or, ap, sym, ◌∙◌, zero-add, arith}
use Rattle.std.proofs.lemmas.List.{take_more}
use Rattle.std.proofs.lemmas.List.Sums.{sum_by-append}
use Rattle.std.proofs.lemmas.List.FromFn.{map-range_with_len_more}
use Rattle.std.proofs.Math.Nat.{add-mod-mod, mod-add-mod}
use Rattle.std.proofs.Math.Seq.{take-length}
use Rattle.std.specs.Prelude.{sum}
use Rattle.std.specs.List.{range_with_len}
use Rattle.tiff_pages.specs.Adler.{adler_32, base, first_sum, first_sum_to, second_sum}

sum-append : (xs ys : List ℕ) → sum (xs ++ ys) ≡ sum xs + sum ys
sum-append xs ys = sum_by-append (λ x. x) xs ys

-- the sum of the first sums over the first `n` beginnings but the empty one
abbrev pub second_sum_to : List ℕ → ℕ → ℕ
second_sum_to bytes n = sum (map (first_sum_to bytes) (range_with_len 0 n))

first_more : (bytes : List ℕ) (i b : ℕ) → i < length bytes → b ≡ get_or bytes i 0
    → first_sum (take (i + 1) bytes) ≡ first_sum (take i bytes) + b
first_more bytes i b l e =
    let more = ap sum (take_more bytes i 0 l) ∙ sum-append (take i bytes) (get_or bytes i 0 ∷ []) in
    omega (arith, more, e)

second_more : (bytes : List ℕ) (i : ℕ)
    → second_sum_to bytes (i + 1) ≡ second_sum_to bytes i + first_sum (take (i + 1) bytes)
second_more bytes i =
    let k : suc i ≡ i + 1 = omega arith in
    let more =
    ap sum (map-range_with_len_more (first_sum_to bytes) 0 i i (zero-add i))
    ∙ sum-append (map (first_sum_to bytes) (range_with_len 0 i)) (first_sum_to bytes i ∷ []) in
    let last = ap (λ (n : ℕ). first_sum (take n bytes)) k in
    omega (arith, more, last)

-- One more byte is added.
pub first_after : (bytes : List ℕ) (i b first now : ℕ) → i < length bytes → b ≡ get_or bytes i 0
    → first ≡ first_sum (take i bytes) % base → now ≡ (first + b) % base
    → now ≡ first_sum (take (i + 1) bytes) % base
first_after bytes i b first now l is f n =
    n ∙ ap (λ (x : ℕ). (x + b) % base) f ∙ mod-add-mod (first_sum (take i bytes)) base b
    ∙ ap (λ (x : ℕ). x % base) (sym (first_more bytes i b l is))

pub second_after : (bytes : List ℕ) (i first second now : ℕ)
    → first ≡ first_sum (take (i + 1) bytes) % base → second ≡ second_sum_to bytes i % base
    → now ≡ (second + first) % base
    → now ≡ second_sum_to bytes (i + 1) % base
second_after bytes i first second now f s n =
    n ∙ ap (λ (x : ℕ). (x + first) % base) s
    ∙ ap (λ (x : ℕ). (second_sum_to bytes i % base + x) % base) f
    ∙ add-mod-mod (second_sum_to bytes i % base) (first_sum (take (i + 1) bytes)) base
    ∙ mod-add-mod (second_sum_to bytes i) base (first_sum (take (i + 1) bytes))
    ∙ ap (λ (x : ℕ). x % base) (sym (second_more bytes i))

-- All bytes are added.
pub adler_made : (bytes : List ℕ) (first second : ℕ)
    → first ≡ first_sum (take (length bytes) bytes) % base
    → second ≡ second_sum_to bytes (length bytes) % base
    → second * 65536 + first ≡ adler_32 bytes
unfolding adler_32
adler_made bytes first second f s =
    ap (λ (x : ℕ). x * 65536 + first) s
    ∙ ap (λ (x : ℕ). second_sum bytes % base * 65536 + x) (f
    ∙ ap (λ (xs : List ℕ). first_sum xs % base) (take-length bytes))
