-- The bytes of numbers in sequence are read as these numbers.
use Rattle.std.proofs.Common.{◌≡◌, ℕ, zero, suc, ◌+◌, ◌*◌, ◌^◌, ◌<◌, List, [], ◌∷◌, ◌++◌, length, drop, get_or, refl, ap, sym, ◌∙◌, subst, inl, inr, arith, append_assoc, length-append}
use Rattle.std.proofs.lemmas.List.{ext_get_or, get_or-drop, get_or_append_left, drop-drop, drop_at}
use Rattle.std.proofs.lemmas.List.FromFn.{length-map-range_with_len, get_or-map-range_with_len}
use Rattle.std.proofs.Math.Nat.{mod-eq_of_lt}
use Rattle.std.specs.Int.{w8, w16, w32, w64}
use Rattle.std.specs.List.{flat_map}
use Rattle.tiff_base.specs.declared.tags.ByteOrder.TheVariants.{LittleEndian}
use Rattle.tiff_base.specs.Number.{number, le}
use Rattle.tiff_page.specs.Pixels.{tabulate, width_of}
use Rattle.tiff_page.specs.Row.{IsSize}
use Rattle.tiff_base.specs.lemmas.Slices.{number-le, length-le}

-- one byte is read as its number
byte_back : (x : ℕ) → x < 256 → number LittleEndian w8 (le 1 x) ≡ x
unfolding number
byte_back x h = mod-eq_of_lt h

-- a number of a supported size is read back as written
number_back : (size x : ℕ) → IsSize size → x < 256 ^ size
    → number LittleEndian (width_of size) (le size x) ≡ x
number_back size x s =
    let P : ℕ → Type 0 = λ n. x < 256 ^ n → number LittleEndian (width_of n) (le n x) ≡ x in
    elim s as (λ _. P size) [
      | inl e ↦ subst P (sym e) (byte_back x)
      | inr t ↦ elim t as (λ _. P size) [
        | inl e ↦ subst P (sym e) (number-le w16 x (inl refl))
        | inr u ↦ elim u as (λ _. P size) [
          | inl e ↦ subst P (sym e) (number-le w32 x (inr (inl refl)))
          | inr e ↦ subst P (sym e) (number-le w64 x (inr (inr refl)))
        ]
      ]
    ]

-- the bytes at the offset of a written number
bytes_there : (size x at : ℕ) (bytes rest : List ℕ) (f : ℕ → ℕ) → drop at bytes ≡ le size x ++ rest
    → ((j : ℕ) → j < size → f j ≡ get_or bytes (at + j) 0) → tabulate size f ≡ le size x
bytes_there size x at bytes rest f e h =
    let l : length (tabulate size f) ≡ size = length-map-range_with_len f 0 size in
    let k : length (le size x) ≡ size = length-le 0 size x in
    ext_get_or 0 (tabulate size f) (le size x) (l ∙ sym k) (λ j b.
    let c : j < size = omega (arith, b, l) in
    get_or-map-range_with_len f 0 size j j 0 c (omega arith)
    ∙ h j c
    ∙ sym (get_or-drop at bytes j 0)
    ∙ ap (λ (s : List ℕ). get_or s j 0) e
    ∙ get_or_append_left (le size x) rest 0 j (omega (arith, c, k)))

-- the bytes of numbers contain number k at its offset
pub stands_there : (n : ℕ) (numbers rest : List ℕ) (k : ℕ) → k < length numbers
    → (tail : List ℕ) × (drop (k * n) (flat_map (le n) numbers ++ rest) ≡ le n (get_or numbers k 0)
    ++ tail)
stands_there n [] rest k h = Prim.absurd (omega (arith, h))
stands_there n (x ∷ xs) rest zero h =
    let z : 0 * n ≡ 0 = omega arith in (
      flat_map (le n) xs ++ rest,
      ap (λ (i : ℕ). drop i ((le n x ++ flat_map (le n) xs) ++ rest)) z
          ∙ append_assoc (le n x) (flat_map (le n) xs) rest,
    )
stands_there n (x ∷ xs) rest (suc k) h =
    let i = stands_there n xs rest k (omega (arith, h)) in
    let z : suc k * n ≡ n + k * n = omega arith in (
      i.0,
      ap (λ (j : ℕ). drop j ((le n x ++ flat_map (le n) xs) ++ rest)) z
          ∙ sym (drop-drop (k * n) n ((le n x ++ flat_map (le n) xs) ++ rest))
          ∙ ap (λ (s : List ℕ). drop (k * n) (drop n s)) (append_assoc (le n x) (flat_map (le n) xs) rest)
          ∙ ap (λ (s : List ℕ). drop (k * n) s) (drop_at (le n x) (flat_map (le n) xs
          ++ rest) n (length-le 0 n x))
          ∙ i.1,
    )

-- number k is read from the bytes of numbers, whatever bytes follow
pub number_found : (size : ℕ) (numbers rest : List ℕ) (k : ℕ) (f : ℕ → ℕ) → IsSize size
    → k < length numbers
    → get_or numbers k 0 < 256 ^ size
    → ((j : ℕ) → j < size → f j ≡ get_or (flat_map (le size) numbers ++ rest) (k * size + j) 0)
    → number LittleEndian (width_of size) (tabulate size f) ≡ get_or numbers k 0
number_found size numbers rest k f s h b e =
    let i = stands_there size numbers rest k h in
    ap (number LittleEndian (width_of size))
    (bytes_there size (get_or numbers k 0) (k * size) (flat_map (le size) numbers
    ++ rest) i.0 f i.1 e)
    ∙ number_back size (get_or numbers k 0) s b

-- the total number of bytes of some numbers
pub length_written : (n : ℕ) (numbers : List ℕ)
    → length (flat_map (le n) numbers) ≡ length numbers * n
length_written n [] = omega arith
length_written n (x ∷ xs) =
    let i = length_written n xs in
    omega (arith, length-append (le n x) (flat_map (le n) xs), length-le 0 n x, i)
