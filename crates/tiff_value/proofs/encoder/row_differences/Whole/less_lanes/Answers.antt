use Rattle.std.proofs.Common.{refl, arith}
use Rattle.tiff_value.proofs.Lanes.{less_one, less_whole}
use Rattle.tiff_value.proofs.encoder.row_differences.Whole.less_lanes.Goals as goal

pub each-init : goal.each-init
each-init g c = record { long = c.requires.out; done = refl }

pub each-preserved : goal.each-preserved
each-preserved g c =
    less_one g.Self.Whole.bits g.Self.Whole.modulus c.args.at c.args.before c.args.row.now 16 c.each.k c.index-row-at.result c.index-row-before.result c.less.result
    c.each.out _ c.each-test.true (omega (arith, c.each-test.true, c.requires.row))
    (omega (arith, c.each-test.true, c.requires.row, c.requires.order))
    c.index-row-at.is c.index-row-before.is c.less.ensures.difference c.less.ensures.others c.each.invariant refl

pub returns : goal.returns
returns g c =
    less_whole g.Self.Whole.bits g.Self.Whole.modulus c.args.at c.args.before c.args.row.now 16 c.each.k c.each.out
    (omega (arith, c.each-test.false, c.each.auto.k-end)) c.each.invariant
