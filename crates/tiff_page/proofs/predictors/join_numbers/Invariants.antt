use Rattle.std.proofs.Common.{◌≡◌, ℕ, ◌+◌, ◌-◌, ◌*◌, ◌<◌, get_or}
use Rattle.tiff_page.proofs.predictors.join_numbers.Given as goal

-- the numbers before the next are joined
abbrev pub invariant-loop-k : goal.invariant-loop-k
invariant-loop-k l =
    (i : ℕ) → i < l.k → (j : ℕ) → j < l.size
    → get_or l.row (i * l.size + j) 0 ≡ get_or l.planes ((l.size - 1 - j) * l.count + i) 0
