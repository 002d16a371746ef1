use Rattle.std.proofs.Common.{ℕ, ◌+◌, ◌<◌}
use Rattle.tiff_base.specs.Place.{key_at}
use Rattle.tiff_base.proofs.gathered.ascends.Given as goal

abbrev pub invariant-loop-i : goal.invariant-loop-i
invariant-loop-i l = (k : ℕ) → k + 1 < l.i → key_at l.entries k < key_at l.entries (k + 1)
