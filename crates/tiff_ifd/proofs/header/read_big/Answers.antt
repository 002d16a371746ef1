use Rattle.std.proofs.Common.{arith}
use Rattle.std.proofs.lemmas.Grind.{common_steps}
use Rattle.std.proofs.lemmas.Result.{err_from_is_err_and}
use Rattle.tiff_base.specs.lemmas.Causes.{cause_along}
use Rattle.tiff_ifd.proofs.header.read_big.Goals as goal

pub returns-in_err-read_u16_at-2-clause-answer : goal.returns-in_err-read_u16_at-2-clause-answer
returns-in_err-read_u16_at-2-clause-answer g c =
    let answered =
    err_from_is_err_and c.from_residual-in_err-read_u16_at-2.result c.from_residual-in_err-read_u16_at-2.ensures.1 in
    rw (answered.1, answered.2) (cause_along c.in_err-read_u16_at-2.field-0.0 (λ w. w)
    (λ f. omega (arith, f, c.in_ok-read_u16_at.ensures.kept.failures))
    (λ h. grind (arith, common_steps, h))
    c.in_err-read_u16_at-2.ensures.answer)

pub returns-in_err-read_u64_at-clause-answer : goal.returns-in_err-read_u64_at-clause-answer
returns-in_err-read_u64_at-clause-answer g c =
    let answered =
    err_from_is_err_and c.from_residual-in_err-read_u64_at.result c.from_residual-in_err-read_u64_at.ensures.1 in
    rw (answered.1, answered.2) (cause_along c.in_err-read_u64_at.field-0.0 (λ w. w)
    (λ f. omega (arith, f, c.in_ok-read_u16_at.ensures.kept.failures, c.in_ok-read_u16_at-2.ensures.kept.failures))
    (λ h. grind (arith, common_steps, h))
    c.in_err-read_u64_at.ensures.answer)
