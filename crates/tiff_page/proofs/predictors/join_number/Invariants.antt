use Rattle.std.proofs.Common.{◌≡◌, ℕ, ◌+◌, ◌-◌, ◌*◌, ◌<◌, get_or}
use Rattle.tiff_page.proofs.predictors.join_number.Given as goal

abbrev pub invariant-loop-j : goal.invariant-loop-j
invariant-loop-j l =
    (i : ℕ) → i < l.j → get_or l.number i 0 ≡ get_or l.planes ((l.size - 1 - i) * l.count + l.k) 0
