-- Bytes in the readable stretches of a source.
use Rattle.std.proofs.Common.{◌≡◌, ℕ, ◌+◌, ◌≤◌, ◌<◌, Bool, true, false, List, ◌∷◌, Some, ap, refl, ◌∙◌}
use Rattle.std.proofs.lemmas.Bool.{le-leb, lt-ltb}
use Rattle.std.specs.List.{list_any}
use Rattle.std.specs.Prelude.{◌&&◌, ◌||◌, nat_le, nat_lt}
use Rattle.tiff_base.specs.SourceAndSink.{answers_for}

or_true : (b : Bool) → (b || true) ≡ true
or_true true = refl
or_true false = refl

abbrev is_in : ℕ → ℕ × ℕ → Bool
is_in k s = nat_le s.0 k && nat_lt k (s.0 + s.1)

-- a byte of the first stretch is readable
pub in_first : (from len : ℕ) (others : List (ℕ × ℕ)) (k : ℕ) → from ≤ k → k < from + len
    → answers_for (Some ((from, len) ∷ others)) k ≡ true
unfolding answers_for
in_first from len others k l h =
    ap (λ b. (b && nat_lt k (from + len)) || list_any (is_in k) others) (le-leb from k l)
    ∙ ap (λ b. b || list_any (is_in k) others) (lt-ltb k (from + len) h)

-- a byte of a later stretch is readable
pub in_later : (s : ℕ × ℕ) (others : List (ℕ × ℕ)) (k : ℕ) → answers_for (Some others) k ≡ true
    → answers_for (Some (s ∷ others)) k ≡ true
unfolding answers_for
in_later s others k e = ap (λ b. is_in k s || b) e ∙ or_true (is_in k s)
