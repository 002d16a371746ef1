use Rattle.std.proofs.Common.{arith}
use Rattle.std.proofs.lemmas.Grind.{common_steps}
use Rattle.tiff_page.specs.Checks.{strips_in}
use Rattle.tiff_page.specs.lemmas.PassedChecks.{required_found}
use Rattle.tiff_page.proofs.Callers.{refused}
use Rattle.tiff_page.proofs.read_page.read_strips.Goals as goal

pub returns-in_err-require_u64_vec-2-clause-answer : goal.returns-in_err-require_u64_vec-2-clause-answer
unfolding strips_in
returns-in_err-require_u64_vec-2-clause-answer g c =
    refused _ _ c.in_err-require_u64_vec-2.field-0.0 _ _ _ _ _ _ c.from_residual-in_err-require_u64_vec-2.ensures.1 (λ w. grind (arith, common_steps, w, required_found))
    (λ f. omega (arith, f, c.in_ok-require_u64_vec.ensures.kept.failures)) (λ h. grind (arith, common_steps, h)) c.in_err-require_u64_vec-2.ensures.answer

pub returns-in_err-find_u32-clause-answer : goal.returns-in_err-find_u32-clause-answer
unfolding strips_in
returns-in_err-find_u32-clause-answer g c =
    refused _ _ c.in_err-find_u32.field-0.0 _ _ _ _ _ _ c.from_residual-in_err-find_u32.ensures.1 (λ w. grind (arith, common_steps, w, required_found))
    (λ f. omega (arith, f, c.in_ok-require_u64_vec.ensures.kept.failures, c.in_ok-require_u64_vec-2.ensures.kept.failures)) (λ h. grind (arith, common_steps, h)) c.in_err-find_u32.ensures.answer
