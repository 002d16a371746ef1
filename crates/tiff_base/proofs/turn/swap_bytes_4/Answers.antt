use Rattle.std.proofs.Common.{refl}
use Rattle.tiff_base.proofs.ByteOrders.{one_more, last_part}
use Rattle.tiff_base.proofs.turn.swap_bytes_4.Goals as goal

pub parts-preserved : goal.parts-preserved
parts-preserved c = one_more 4 4 _ _ refl c.parts-test.true c.parts.invariant c.turn_lanes_4.ensures

pub returns : goal.returns
returns c =
    last_part 4 4 _ _ _ _ refl c.parts-test.false c.parts.auto.k-end c.parts.invariant c.turn_plain.ensures
