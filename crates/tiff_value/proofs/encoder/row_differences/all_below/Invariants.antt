use Rattle.std.proofs.Common.{ℕ, ◌<◌, map, get_or}
use Rattle.tiff_value.proofs.encoder.row_differences.all_below.Given as goal

abbrev pub invariant-seen : goal.invariant-seen
invariant-seen g l = (k : ℕ) → k < l.i → get_or (map g.T.Whole.bits l.row) k 0 < g.T.Whole.modulus
