-- Rows of samples, several samples at once.
use Rattle.std.specs.Prelude.{ℕ, ◌+◌, ◌-◌, ◌%◌, List, map, get_or}
use Rattle.std.specs.List.{range_with_len}

-- the n numbers from number `at` on, each minus the number at the same distance from number
-- `before` on, modulo m, which is above all of them
abbrev pub less_from : ℕ → ℕ → ℕ → ℕ → List ℕ → List ℕ
less_from m n at before numbers =
    map (λ k. (get_or numbers (at + k) 0 + (m - get_or numbers (before + k) 0)) % m)
    (range_with_len 0 n)
