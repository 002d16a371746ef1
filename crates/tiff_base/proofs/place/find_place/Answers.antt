use Rattle.tiff_base.proofs.Search.{right, left}
use Rattle.tiff_base.proofs.place.find_place.Goals as goal

pub halves-preserved-in-Less : goal.halves-preserved-in-Less
halves-preserved-in-Less c =
    right c.args.number c.args.entries.now c.requires c.args.count.now c.halves.count c.compare.new.self c.halves.low c.halves.high _
    c.halves.invariant c.halves-test.true c.compare.ensures.counted (c.in-Less.ensures.order)

pub halves-preserved : goal.halves-preserved
halves-preserved c =
    left c.args.number c.args.entries.now c.requires c.args.count.now c.halves.count c.compare.new.self c.halves.low c.halves.high _
    c.halves.invariant c.halves-test.true c.compare.ensures.counted (c.in-Greater.ensures.order)
