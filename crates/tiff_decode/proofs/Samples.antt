-- Lists of samples by their bits.
use Rattle.std.proofs.Common.{◌≡◌, ◌≤◌, ℕ, zero, suc, List, ◌∷◌, map, length, drop, refl, ap, sym, subst, ◌∙◌}
use Rattle.std.specs.Prelude.{replicate}
use Rattle.std.proofs.lemmas.List.{drop-map, length-map}

map_replicate : {A : Type 0} (f : A → ℕ) (x : A) (n : ℕ) → map f (replicate n x) ≡ replicate n (f x)
map_replicate f x zero = refl
map_replicate f x (suc n) = ap (λ ys. f x ∷ ys) (map_replicate f x n)

-- numbers that are all 0
pub zeros_mapped : {A : Type 0} (f : A → ℕ) (x : A) (xs : List A) (n : ℕ) → f x ≡ 0
    → xs ≡ replicate n x → map f xs ≡ replicate n 0
zeros_mapped f x xs n z e = ap (map f) e ∙ map_replicate f x n ∙ ap (replicate n) z

-- a start within numbers is within their bits
pub length_mapped : {A : Type 0} (f : A → ℕ) (xs : List A) (n : ℕ) → n ≤ length (map f xs)
    → n ≤ length xs
length_mapped f xs n h = subst (λ k. n ≤ k) (length-map xs f) h

-- the bits of a list that is another's rest
pub rest_mapped : {A : Type 0} (f : A → ℕ) (n : ℕ) (ys xs : List A) → ys ≡ drop n xs
    → map f ys ≡ drop n (map f xs)
rest_mapped f n ys xs e = ap (map f) e ∙ sym (drop-map f n xs)
