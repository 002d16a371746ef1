use Rattle.std.proofs.Common.{arith}
use Rattle.std.proofs.lemmas.Grind.{common_steps}
use Rattle.tiff_page.specs.Checks.{size_in}
use Rattle.tiff_page.specs.lemmas.PassedChecks.{required_found}
use Rattle.tiff_page.proofs.Callers.{refused}
use Rattle.tiff_page.proofs.read_page.read_size.Goals as goal

pub returns-in_err-height-clause-answer : goal.returns-in_err-height-clause-answer
unfolding size_in
returns-in_err-height-clause-answer g c =
    refused _ _ c.in_err-height.field-0.0 _ _ _ _ _ _ c.from_residual-in_err-height.ensures.1 (λ w. grind (arith, common_steps, w, required_found))
    (λ f. omega (arith, f, c.in_ok-width.ensures.kept.failures)) (λ h. grind (arith, common_steps, h)) c.in_err-height.ensures.answer
