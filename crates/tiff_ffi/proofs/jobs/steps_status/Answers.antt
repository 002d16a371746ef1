use Rattle.std.proofs.Common.{arith}
use Rattle.tiff_ffi.proofs.FirstFault.{step_passed, step_refused, steps_passed}
use Rattle.tiff_ffi.proofs.Listed.{item_there}
use Rattle.tiff_ffi.proofs.jobs.steps_status.Goals as goal

pub loop-i-preserved : goal.loop-i-preserved
loop-i-preserved c =
    let is =
    item_there c.args.steps.now c.loop-i.i c.index-steps-i.result c.loop-i-test.true c.index-steps-i.is in
    step_passed c.args.steps.now c.loop-i.i c.index-steps-i.result c.status_of-number.result is c.status_of-number.ensures c.loop-i.invariant c.if-number-ne0.false

pub returns-then-number-ne0 : goal.returns-then-number-ne0
returns-then-number-ne0 c =
    let is =
    item_there c.args.steps.now c.loop-i.i c.index-steps-i.result c.loop-i-test.true c.index-steps-i.is in
    step_refused c.args.steps.now c.loop-i.i c.index-steps-i.result c.status_of-number.result is c.status_of-number.ensures c.loop-i.invariant c.if-number-ne0.true

pub returns : goal.returns
returns c =
    steps_passed c.args.steps.now c.loop-i.i (omega (arith, c.loop-i-test.false)) c.loop-i.invariant
