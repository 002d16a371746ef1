-- The bytes that a buffer asks its source for.
use Rattle.std.proofs.Common.{◌≡◌, ℕ, ◌+◌, ◌≤◌, ◌<◌, Bool, true, false, List, [], ◌∷◌, Option, None, Some, arith, refl}
use Rattle.std.proofs.lemmas.Bool.Decides.{nat_tests}
use Rattle.std.specs.List.{list_any}
use Rattle.std.specs.Prelude.{◌&&◌, ◌||◌, map, nat_le, nat_lt, option_map}
use Rattle.tiff_base.specs.Memory.{buffered, shortened}
use Rattle.tiff_base.specs.SourceAndSink.{SourceRecord, AreReadable, answers_for}

abbrev is_in : ℕ → ℕ × ℕ → Bool
is_in k s = nat_le s.0 k && nat_lt k (s.0 + s.1)

or_else : (a b c d : Bool) → (a ≡ true → c ≡ true) → (b ≡ true → d ≡ true) → (a || b) ≡ true
    → (c || d) ≡ true
or_else true b true d f g e = refl
or_else true b false d f g e = absurd (let x = f refl in cc)
or_else false b true d f g e = refl
or_else false b false d f g e = g e

in_longer : (s : ℕ × ℕ) (at k : ℕ) → at ≤ k → k < at + 8192 → is_in at (shortened s) ≡ true
    → is_in k s ≡ true
in_longer s at k l h e = grind (arith, nat_tests)

ahead_in : (stretches : List (ℕ × ℕ)) (at k : ℕ) → at ≤ k → k < at + 8192
    → list_any (is_in at) (map shortened stretches) ≡ true → list_any (is_in k) stretches ≡ true
ahead_in [] at k l h e = e
ahead_in (s ∷ rest) at k l h e =
    or_else (is_in at (shortened s)) (list_any (is_in at) (map shortened rest)) (is_in k s)
    (list_any (is_in k) rest)
    (in_longer s at k l h) (ahead_in rest at k l h) e

held_ahead : (stretches : Option (List (ℕ × ℕ))) (at k : ℕ)
    → answers_for (option_map (map shortened) stretches) at ≡ true → at ≤ k → k < at + 8192
    → answers_for stretches k ≡ true
unfolding answers_for
held_ahead None at k e l h = refl
held_ahead (Some stretches) at k e l h = ahead_in stretches at k l h e

-- bytes that are readable through the buffer are readable in its source
pub through_buffer : (s : SourceRecord) (at n : ℕ) → AreReadable (buffered s) at n
    → AreReadable s at n
through_buffer s at n r k l h = held_ahead s.readable k k (r k l h) (omega arith) (omega arith)

-- if some bytes from an offset on are readable through the buffer, 8192 bytes from there on are
-- readable in its source
pub first_ahead : (s : SourceRecord) (at n : ℕ) → 0 < n → AreReadable (buffered s) at n
    → AreReadable s at 8192
first_ahead s at n some r k l h =
    held_ahead s.readable at k (r at (omega arith) (omega (arith, some))) l h
