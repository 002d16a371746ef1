use Rattle.std.proofs.Common.{length}
use Rattle.tiff_script.proofs.DigitPairs.{AreRead}
use Rattle.tiff_script.proofs.digits.bytes_of_pairs.Given as goal

abbrev pub invariant-loop-rest : goal.invariant-loop-rest
invariant-loop-rest l = AreRead l.digits l.bytes.items l.rest

abbrev pub decreases-loop-rest : goal.decreases-loop-rest
decreases-loop-rest l = length l.rest
