use Rattle.std.proofs.Common.{ℕ, ◌<◌, get_or}
use Rattle.tiff_base.specs.Field.{Field, IsEntry}
use Rattle.tiff_base.proofs.gathered.each_fits.Given as goal

abbrev pub invariant-loop-i : goal.invariant-loop-i
invariant-loop-i l = (k : ℕ) (d : ℕ × Field) → k < l.i → IsEntry (get_or l.entries k d)
