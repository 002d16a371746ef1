use Rattle.std.proofs.Common.{◌≡◌}
use Rattle.tiff_base.specs.ByteOrders.{turned_units}
use Rattle.tiff_base.proofs.turn.turn_plain.Given as goal

abbrev pub invariant-units : goal.invariant-units
invariant-units l = l.buffer ≡ turned_units l.size l.i l.initial.buffer
