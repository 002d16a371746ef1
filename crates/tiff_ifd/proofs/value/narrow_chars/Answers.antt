use Rattle.std.proofs.Common.{Ok, ap}
use Rattle.tiff_ifd.proofs.Letters.{step, all_read}
use Rattle.tiff_ifd.proofs.value.narrow_chars.Goals as goal

pub loop-c-preserved : goal.loop-c-preserved
loop-c-preserved c =
    step _ _ _ _ _ _ c.loop-c.invariant c.in_ok-push.ensures.items c.in-Some.ensures.steps.0

pub returns : goal.returns
returns c = ap Ok (all_read _ _ _ c.utf8.text c.loop-c.invariant c.in-None.ensures.steps.0.0)
