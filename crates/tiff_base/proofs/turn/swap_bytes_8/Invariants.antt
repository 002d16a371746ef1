use Rattle.std.proofs.Common.{◌≡◌, ◌*◌}
use Rattle.tiff_base.specs.ByteOrders.{turned_units}
use Rattle.tiff_base.proofs.turn.swap_bytes_8.Given as goal

abbrev pub invariant-parts : goal.invariant-parts
invariant-parts l = l.buffer ≡ turned_units 8 (2 * l.k) l.initial.buffer
