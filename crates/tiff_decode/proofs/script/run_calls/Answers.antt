use Rattle.std.proofs.Common.{arith}
use Rattle.tiff_decode.proofs.CallsMade.{all_made}
use Rattle.tiff_decode.proofs.script.run_calls.Goals as goal

pub returns-clause-made : goal.returns-clause-made
returns-clause-made g c =
    all_made _ _ c.args.calls.now c.args.replies.now.items c.loop-call.replies.items c.loop-call.call-index (omega (arith, c.loop-call-test.false)) c.loop-call.invariant.made
