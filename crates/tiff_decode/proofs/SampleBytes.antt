-- Samples as their bytes.
use Rattle.std.proofs.Common.{◌≡◌, ℕ, ◌<◌, ◌%◌, ◌/◌, ◌^◌, List, [], ◌∷◌, ap, sym, subst, ◌∙◌}
use Rattle.std.proofs.Math.Nat.{div-one, mod-eq_of_lt}
use Rattle.tiff_base.specs.Number.{le}
use Rattle.tiff_base.specs.SourceAndSink.{AreOctets}
use Rattle.tiff_page.specs.NumberBytes.{all_bytes}
use Rattle.tiff_page.specs.Row.{IsSize}
use Rattle.tiff_page.specs.lemmas.Rows.{by_size}

-- All bytes of a number are its lowest ones, where the last is an octet.
abbrev Lowest : ℕ → ℕ → Type 0
Lowest n size = AreOctets (all_bytes size n) → all_bytes size n ≡ le size n

first : (n : ℕ) → n / 1 % 256 ≡ n % 256
first n = ap (λ (m : ℕ). m % 256) (div-one n)

lowest : (n size : ℕ) → IsSize size → Lowest n size
lowest n size z =
    by_size (Lowest n) size
    (λ o. λ i. (div-one n ∙ sym (mod-eq_of_lt (subst (λ (m : ℕ). m < 256) (div-one n) (o 0)))) i
    ∷ [])
    (λ o. λ i. first n i ∷ sym (mod-eq_of_lt (o 1)) i ∷ [])
    (λ o. λ i. first n i ∷ n / 256 ^ 1 % 256 ∷ n / 256 ^ 2 % 256 ∷ sym (mod-eq_of_lt (o 3)) i ∷ [])
    (λ o. λ i.
    first n i ∷ n / 256 ^ 1 % 256 ∷ n / 256 ^ 2 % 256 ∷ n / 256 ^ 3 % 256 ∷ n / 256 ^ 4 % 256
    ∷ n / 256 ^ 5 % 256 ∷ n / 256 ^ 6 % 256
    ∷ sym (mod-eq_of_lt (o 7)) i ∷ [])
    z

-- The bytes of a sample are its lowest ones.
pub lowest_bytes : (size n : ℕ) (bytes : List ℕ) → IsSize size → AreOctets bytes
    → bytes ≡ all_bytes size n → bytes ≡ le size n
lowest_bytes size n bytes z o e = e ∙ lowest n size z (subst AreOctets e o)
