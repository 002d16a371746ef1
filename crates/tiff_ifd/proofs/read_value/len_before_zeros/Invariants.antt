use Rattle.std.proofs.Common.{◌≡◌, ℕ, ◌<◌, ◌≤◌, true, length, get_or}
use Rattle.tiff_ifd.specs.FieldValue.{is_zero}
use Rattle.tiff_ifd.proofs.read_value.len_before_zeros.Given as goal

abbrev pub invariant-loop-n : goal.invariant-loop-n
invariant-loop-n l =
    record { in_range : l.n ≤ length l.bytes; zeros : (k : ℕ) → l.n ≤ k → k < length l.bytes → is_zero (get_or l.bytes k 0) ≡ true }

abbrev pub decreases-loop-n : goal.decreases-loop-n
decreases-loop-n l = l.n
