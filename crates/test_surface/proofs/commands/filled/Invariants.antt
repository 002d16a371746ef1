use Rattle.std.proofs.Common.{◌≡◌, length}
use Rattle.test_surface.proofs.commands.filled.Given as goal

-- there is a byte for each turn
abbrev pub invariant-loop-i : goal.invariant-loop-i
invariant-loop-i l = length l.part.items ≡ l.i
