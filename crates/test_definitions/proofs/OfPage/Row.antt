-- The worked examples of `Page.Row` hold.
use Rattle.std.proofs.Common.{arith, lit≤}
use Rattle.test_definitions.specs.Page.Row as s
use Rattle.tiff.proofs.OnLiterals.{tiff_on_literals}

pub second_unturned : s.second_unturned
unfolding tiff_on_literals
second_unturned = λ r. omega (arith, r 1 (lit≤ tt))

pub ruleset worked = (second_unturned)
