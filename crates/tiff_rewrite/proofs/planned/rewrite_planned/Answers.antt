use Rattle.std.proofs.Common.{arith}
use Rattle.std.proofs.lemmas.Grind.{common_steps}
use Rattle.tiff_base.specs.lemmas.Causes.{cause_along}
use Rattle.tiff_rewrite.specs.PlannedRewrite.{planned_fault}
use Rattle.tiff_rewrite.proofs.Refused.{err_answers}
use Rattle.tiff_rewrite.proofs.planned.rewrite_planned.Goals as goal

pub returns-in_err-page-clause-answer : goal.returns-in_err-page-clause-answer
unfolding planned_fault
returns-in_err-page-clause-answer g c =
    err_answers _ _ _ _ c.from_residual.ensures.1 (cause_along c.in_err-page.field-0.0 (λ w. tt) (λ f. f)
    (λ h. grind (arith, common_steps, h)) c.in_err-page.ensures.answer)
