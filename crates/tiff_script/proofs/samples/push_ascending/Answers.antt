use Rattle.std.proofs.Common.{arith, ap, sym, ◌≡◌, ◌∙◌, Some}
use Rattle.std.proofs.lemmas.Grind.{common_steps}
use Rattle.tiff_script.proofs.SampleRuns.{all_ascend, one_ascends}
use Rattle.tiff_script.proofs.samples.push_ascending.Goals as goal

pub loop-number-preserved : goal.loop-number-preserved
loop-number-preserved c =
    let h = c.loop-number.invariant in
    let more =
    one_ascends c.args.samples.now.items c.loop-number.samples.items c.args.range c.loop-number.number h.0 h.2 in
    (omega (arith, h.0), omega (arith, c.loop-number-test.true), c.in_ok-push.ensures.items ∙ more)

pub returns-in_ok-push : goal.returns-in_ok-push
returns-in_ok-push c =
    let h = c.loop-number.invariant in
    let last : c.loop-number.number ≡ c.args.range.last = grind (arith, common_steps) in
    ap (λ xs. Some xs) (sym (c.in_ok-push.ensures.items
    ∙ all_ascend c.args.samples.now.items c.loop-number.samples.items c.args.range c.loop-number.number h.0 h.2 last))
