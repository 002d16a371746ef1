use Rattle.std.proofs.Common.{sym, arith}
use Rattle.tiff_base.proofs.ByteOrders.{turned_none, next_unit, last_unit}
use Rattle.tiff_base.proofs.turn.turn_plain.Goals as goal

pub units-init : goal.units-init
units-init c = sym (turned_none c.args.size c.args.buffer.now)

pub units-preserved : goal.units-preserved
units-preserved c =
    next_unit c.args.size c.units.i c.args.buffer.now c.units.buffer c.reverse.new.self c.units-test.true c.units.invariant c.reverse.ensures.after

pub returns : goal.returns
returns c =
    last_unit c.args.size c.units.i c.args.buffer.now c.units.buffer
    (omega (arith, c.units-test.false, c.units.auto.i-end)) c.units.invariant
