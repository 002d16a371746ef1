use Rattle.std.proofs.Common.{arith}
use Rattle.std.proofs.lemmas.Result.{err_from_is_err_and}
use Rattle.tiff_base.specs.lemmas.Causes.{cause_along}
use Rattle.std.proofs.lemmas.Grind.{common_steps}
use Rattle.tiff_pages.specs.Plan.{read_planned}
use Rattle.tiff_pages.proofs.plan.PlanReader.read_planned.Goals as goal

pub returns-in_err-page-clause-answer : goal.returns-in_err-page-clause-answer
unfolding read_planned
returns-in_err-page-clause-answer g c =
    let answered = err_from_is_err_and c.from_residual.result c.from_residual.ensures.1 in
    rw (answered.1, answered.2) (cause_along c.in_err-page.field-0.0 (λ w. tt) (λ f. f)
    (λ h. grind (arith, common_steps, h)) c.in_err-page.ensures.answer)
