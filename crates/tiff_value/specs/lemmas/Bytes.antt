-- Bytes written one by one.
use Rattle.std.proofs.Common.{◌≡◌, ℕ, ◌≤◌, ◌%◌, List, [], ◌∷◌, ◌++◌, length, take, map, get_or, Fits, w8, refl, ap, sym, ◌∙◌, arith, suc, length-append}
use Rattle.std.proofs.Math.Seq.{take-append_seam}
use Rattle.std.proofs.lemmas.List.{take-take}
use Rattle.std.specs.Io.{StartsWith}
use Rattle.std.specs.List.{flat_map}
use Rattle.tiff_base.specs.Number.{le}
use Rattle.tiff_value.specs.ColorType.{sample_number}

byte_alone : (n : ℕ) → Fits w8 n → n % 256 ≡ n
byte_alone n h = omega arith

-- bytes are written as they are
pub bytes_alone : (xs : List ℕ) → ((i : ℕ) → Fits w8 (get_or xs i 0)) → flat_map (le 1) xs ≡ xs
bytes_alone [] h = refl
bytes_alone (x ∷ xs) h =
    let e : x % 256 ≡ x = byte_alone x (h 0) in
    let rest : flat_map (le 1) xs ≡ xs = bytes_alone xs (λ i. h (suc i)) in
    ap (λ (b : ℕ). b ∷ flat_map (le 1) xs) e ∙ ap (λ (bs : List ℕ). x ∷ bs) rest

-- bytes are the numbers of samples of one byte
pub octets_alone : (xs : List ℕ) → ((i : ℕ) → Fits w8 (get_or xs i 0))
    → map (sample_number 1 (λ n. n)) xs ≡ xs
octets_alone [] h = refl
octets_alone (x ∷ xs) h =
    let e : x % 256 ≡ x = byte_alone x (h 0) in (λ j. e j ∷ octets_alone xs (λ i. h (suc i)) j)

-- to append to a list leaves its front unchanged
pub front_appended : (new old xs : List ℕ) → new ≡ old ++ xs → StartsWith new old
front_appended new old xs e = ap (take (length old)) e ∙ take-append_seam old xs

-- the front of a front is a front
pub front_kept : (new mid old xs : List ℕ) → StartsWith new mid → mid ≡ old ++ xs
    → StartsWith new old
front_kept new mid old xs h e =
    let within : length old ≤ length mid = omega (arith, ap length e, length-append old xs) in
    sym (take-take (length old) (length mid) new within) ∙ ap (take (length old)) h
    ∙ front_appended mid old xs e
