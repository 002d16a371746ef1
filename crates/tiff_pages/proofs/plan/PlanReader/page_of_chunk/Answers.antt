use Rattle.std.proofs.Common.{arith}
use Rattle.std.proofs.lemmas.Result.{err_from_is_err_and}
use Rattle.tiff_base.specs.lemmas.Causes.{cause_along}
use Rattle.std.proofs.lemmas.Grind.{common_steps}
use Rattle.tiff_pages.specs.Plan.{page_of_chunk}
use Rattle.tiff_pages.proofs.plan.PlanReader.page_of_chunk.Goals as goal

pub returns-in_err-place-clause-answer : goal.returns-in_err-place-clause-answer
unfolding page_of_chunk
returns-in_err-place-clause-answer g c =
    let answered =
    err_from_is_err_and c.from_residual-in_err-place.result c.from_residual-in_err-place.ensures.1 in
    rw (answered.1, answered.2) (cause_along c.in_err-place.field-0.0 (λ w. w) (λ f. f)
    (λ h. grind (arith, common_steps, h)) c.in_err-place.ensures.answer)
