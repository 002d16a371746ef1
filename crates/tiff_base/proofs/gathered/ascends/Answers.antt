use Rattle.std.proofs.Common.{arith}
use Rattle.tiff_base.proofs.Lasts.{one_step, steps_ascend}
use Rattle.tiff_base.proofs.gathered.ascends.Goals as goal

pub loop-i-preserved : goal.loop-i-preserved
loop-i-preserved c =
    one_step c.args.entries.now c.loop-i.i _ _ (omega arith) (omega (arith, c.loop-i-test.true)) c.if-entries-i.false c.loop-i.invariant

pub returns : goal.returns
returns c =
    steps_ascend c.args.entries.now (λ k l. c.loop-i.invariant k (omega (arith, l, c.loop-i-test.false)))
