use Rattle.std.proofs.Common.{arith}
use Rattle.tiff_ffi.proofs.FirstFault.{job_passed, job_refused, jobs_passed}
use Rattle.tiff_ffi.proofs.Listed.{item_there}
use Rattle.tiff_ffi.proofs.jobs.first_refused.Goals as goal

pub loop-i-preserved : goal.loop-i-preserved
loop-i-preserved c =
    let is =
    item_there c.args.replies.now c.loop-i.i c.index-replies-i.result c.loop-i-test.true c.index-replies-i.is in
    job_passed c.args.replies.now c.loop-i.i c.index-replies-i.result c.job_status-number.result is c.job_status-number.ensures c.loop-i.invariant c.if-number-ne0.false

pub returns-then-number-ne0 : goal.returns-then-number-ne0
returns-then-number-ne0 c =
    let is =
    item_there c.args.replies.now c.loop-i.i c.index-replies-i.result c.loop-i-test.true c.index-replies-i.is in
    job_refused c.args.replies.now c.loop-i.i c.index-replies-i.result c.job_status-number.result is c.job_status-number.ensures c.loop-i.invariant c.if-number-ne0.true

pub returns : goal.returns
returns c =
    jobs_passed c.args.replies.now c.loop-i.i (omega (arith, c.loop-i-test.false)) c.loop-i.invariant
