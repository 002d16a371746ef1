use Rattle.std.proofs.Common.{◌≡◌, ℕ, ◌<◌, ◌≤◌, ◌-◌, false, length, get_or}
use Rattle.tiff_ifd.specs.FieldValue.{is_zero}
use Rattle.tiff_ifd.proofs.read_value.first_zero.Given as goal

abbrev pub invariant-loop-n : goal.invariant-loop-n
invariant-loop-n l =
    record { in_range : l.n ≤ length l.bytes; zeros : (k : ℕ) → k < l.n → is_zero (get_or l.bytes k 0) ≡ false }

abbrev pub decreases-loop-n : goal.decreases-loop-n
decreases-loop-n l = length l.bytes - l.n
