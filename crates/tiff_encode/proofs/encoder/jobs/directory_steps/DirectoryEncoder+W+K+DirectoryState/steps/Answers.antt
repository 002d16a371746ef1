use Rattle.std.proofs.Common.{◌+◌, List, length, take, Result, refl, ap, sym, ◌∙◌, subst, arith}
use Rattle.std.proofs.lemmas.List.{take_all}
use Rattle.tiff_base.specs.declared.error.TiffError.{TiffError}
use Rattle.tiff_encode.specs.declared.encoder.script.DirectoryStep.{DirectoryStep}
use Rattle.tiff_encode.specs.declared.encoder.script.StepReply.{StepReply}
use Rattle.tiff_encode.specs.Jobs.{FileAndModel, AllStepped, DirectoryStepped}
use Rattle.tiff_encode.specs.Stepping.{Moves}
use Rattle.tiff_encode.proofs.Stepped.{all_none, all_next, moves_joined, moves_none}
use Rattle.tiff_encode.proofs.encoder.jobs.directory_steps.DirectoryEncoder+W+K+DirectoryState.steps.Goals as goal

pub loop-step-init : goal.loop-step-init
loop-step-init g c =
    let d = c.args.self.now.state in
    let steps : List DirectoryStep = c.args.steps.now in
    let P : List (Result StepReply TiffError) → FileAndModel → FileAndModel → Type 0 =
    λ rs s t. AllStepped DirectoryStepped s d (take 0 steps) rs t d in
    record {
      same = refl;
      count = omega (arith, c.args.replies.now.ok, ap (λ xs. length xs) c.requires.none);
      room = omega arith;
      moves =
          moves_none (P c.args.replies.now.items) c.args.self.now.encoder.now
          (λ s. subst (λ rs. P rs s s) (sym c.requires.none) (all_none DirectoryStepped s d));
    }

pub loop-step-preserved : goal.loop-step-preserved
loop-step-preserved g c =
    let i = c.loop-step.invariant in
    let d = c.args.self.now.state in
    let steps : List DirectoryStep = c.args.steps.now in
    let rs : List (Result StepReply TiffError) = c.loop-step.replies.items in
    let n = c.loop-step.step-index in
    let step : DirectoryStep = c.step-item.result in
    let r : Result StepReply TiffError = c.step-reply.result in
    let now = c.loop-step.self.state in
    let next = c.step-reply.new.self.state in
    let P : FileAndModel → FileAndModel → Type 0 =
    λ s t. AllStepped DirectoryStepped s d (take n steps) rs t now in
    let Q : FileAndModel → FileAndModel → Type 0 = λ s t. DirectoryStepped s now step r t next in
    let R : List (Result StepReply TiffError) → FileAndModel → FileAndModel → Type 0 =
    λ rs s t. AllStepped DirectoryStepped s d (take (n + 1) steps) rs t next in
    record {
      same = c.step-reply.ensures.same_reference ∙ i.same;
      count = omega (arith, i.count, c.push_reserved.ensures.len);
      room = omega (arith, i.room, c.push_reserved.ensures.capacity);
      moves =
          moves_joined P Q (R c.push_reserved.new.self.items) c.args.self.now.encoder.now c.loop-step.self.encoder.now c.step-reply.new.self.encoder.now
          (λ s m t p q. subst (λ rs. R rs s t) (sym c.push_reserved.ensures.items)
          (all_next DirectoryStepped s m t d now next steps step n rs r c.loop-step-test.true c.step-item.is p q)) i.moves c.step-reply.ensures.moves;
    }

pub returns-clause-same_reference : goal.returns-clause-same_reference
returns-clause-same_reference g c = c.loop-step.invariant.same

pub returns-clause-moves : goal.returns-clause-moves
returns-clause-moves g c =
    let all =
    take_all c.loop-step.step-index c.args.steps.now (omega (arith, c.loop-step-test.false)) in
    subst (λ steps. Moves (λ s t. AllStepped DirectoryStepped s c.args.self.now.state steps c.loop-step.replies.items t c.loop-step.self.state) c.args.self.now.encoder.now c.loop-step.self.encoder.now) all c.loop-step.invariant.moves
