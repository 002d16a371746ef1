use Rattle.tiff_value.proofs.Lanes.{below_more}
use Rattle.tiff_value.proofs.encoder.row_differences.all_below.Goals as goal

pub seen-preserved : goal.seen-preserved
seen-preserved g c =
    below_more g.T.Whole.bits g.T.Whole.modulus c.args.row.now c.seen.i c.index-row-i.result c.seen-test.true c.index-row-i.is c.less-none.ensures.own c.seen.invariant
