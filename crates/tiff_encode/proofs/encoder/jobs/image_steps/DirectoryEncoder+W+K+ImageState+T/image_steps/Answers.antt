use Rattle.std.proofs.Common.{◌+◌, List, length, take, Result, refl, ap, sym, ◌∙◌, subst, arith}
use Rattle.std.proofs.lemmas.List.{take_all}
use Rattle.tiff_base.specs.declared.error.TiffError.{TiffError}
use Rattle.tiff_encode.specs.declared.encoder.script.ImageStep.{ImageStep}
use Rattle.tiff_encode.specs.declared.encoder.script.StepReply.{StepReply}
use Rattle.tiff_encode.specs.Stepping.{StepsDraw}
use Rattle.tiff_encode.proofs.Image.StepsAll.{none_drawn, next_drawn}
use Rattle.tiff_encode.proofs.encoder.jobs.image_steps.DirectoryEncoder+W+K+ImageState+T.image_steps.Goals as goal

pub loop-step-init : goal.loop-step-init
loop-step-init g c =
    let i = c.args.self.now.state in
    let file = c.args.self.now.encoder.now in
    record {
      same = refl;
      kind = refl;
      count = omega (arith, c.args.replies.now.ok, ap (λ xs. length xs) c.requires.none);
      room = omega arith;
      draws =
          subst (λ rs. StepsDraw i (take 0 c.args.steps.now) rs file file i) (sym c.requires.none)
          (none_drawn i file);
    }

pub loop-step-preserved : goal.loop-step-preserved
loop-step-preserved g c =
    let i = c.loop-step.invariant in
    let first = c.args.self.now in
    let now = c.loop-step.self in
    let next = c.image_step-reply.new.self in
    let steps : List ImageStep = c.args.steps.now in
    let rs : List (Result StepReply TiffError) = c.loop-step.replies.items in
    let n = c.loop-step.step-index in
    let r : Result StepReply TiffError = c.image_step-reply.result in
    record {
      same = c.image_step-reply.ensures.same_reference ∙ i.same;
      kind = c.fact_kind-in-loop-step.ensures ∙ sym c.fact_kind.ensures;
      count = omega (arith, i.count, c.push_reserved.ensures.len);
      room = omega (arith, i.room, c.push_reserved.ensures.capacity);
      draws =
          subst (λ rs. StepsDraw first.state (take (n
          + 1) steps) rs first.encoder.now next.encoder.now next.state) (sym c.push_reserved.ensures.items)
          (next_drawn first.state now.state next.state first.encoder.now now.encoder.now next.encoder.now steps c.step-item.result n rs r i.kind
          c.loop-step-test.true c.step-item.is i.draws c.image_step-reply.ensures.draws);
    }

pub returns-clause-same_reference : goal.returns-clause-same_reference
returns-clause-same_reference g c = c.loop-step.invariant.same

pub returns-clause-draws : goal.returns-clause-draws
returns-clause-draws g c =
    let first = c.args.self.now in
    let last = c.loop-step.self in
    let all =
    take_all c.loop-step.step-index c.args.steps.now (omega (arith, c.loop-step-test.false)) in
    subst (λ steps. StepsDraw first.state steps c.loop-step.replies.items first.encoder.now last.encoder.now last.state) all c.loop-step.invariant.draws
