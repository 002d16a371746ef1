-- Samples that are cut out of numbers.
use Rattle.std.proofs.Common.{◌≡◌, ℕ, suc, ◌+◌, ◌^◌, ◌%◌, ◌<◌, ◌≤◌, List, [], ◌∷◌, ◌++◌, length, map, take, get_or, ap, sym, ◌∙◌, arith}
use Rattle.std.proofs.Math.Seq.{take-suc, take-length}
use Rattle.std.proofs.lemmas.List.{map-append}
use Rattle.tiff_encode.specs.JobValues.{cut_to}

-- one more sample is cut out
pub one_cut : {X : Type 0} (number : X → ℕ) (size : ℕ) (numbers : List ℕ) (old new : List X) (x : X)
    (n : ℕ) → n < length numbers
    → map number old ≡ cut_to size (take n numbers) → new ≡ old ++ x ∷ []
    → number x ≡ get_or numbers n 0 % 256 ^ size
    → map number new ≡ cut_to size (take (n + 1) numbers)
one_cut number size numbers old new x n l h e v =
    let cut : ℕ → ℕ = λ n. n % 256 ^ size in
    let next : n + 1 ≡ suc n = omega arith in
    ap (map number) e ∙ map-append number old (x ∷ []) ∙ (λ j. h j ++ v j ∷ [])
    ∙ sym (ap (λ k. cut_to size (take k numbers)) next ∙ ap (cut_to size) (take-suc numbers n 0 l)
    ∙ map-append cut (take n numbers) (get_or numbers n 0 ∷ []))

-- all samples are cut out
pub all_cut : (size : ℕ) (numbers : List ℕ) (n : ℕ) (samples : List ℕ) → length numbers ≤ n
    → n ≤ length numbers
    → samples ≡ cut_to size (take n numbers) → samples ≡ cut_to size numbers
all_cut size numbers n samples a b h =
    let last : n ≡ length numbers = omega (arith, a, b) in
    h ∙ ap (λ k. cut_to size (take k numbers)) last ∙ ap (cut_to size) (take-length numbers)
