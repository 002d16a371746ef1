use Rattle.std.proofs.Common.{arith}
use Rattle.std.proofs.lemmas.Grind.{common_steps}
use Rattle.std.proofs.lemmas.Result.{err_from_is_err_and}
use Rattle.tiff_base.specs.lemmas.Causes.{cause_along}
use Rattle.tiff_ifd.specs.OneNumber.{one_number}
use Rattle.tiff_ifd.proofs.field_reader.FieldReader.read_number.Goals as goal

pub returns-in_err-fill_part-clause-answer : goal.returns-in_err-fill_part-clause-answer
unfolding one_number
returns-in_err-fill_part-clause-answer g c =
    let answered = err_from_is_err_and c.from_residual.result c.from_residual.ensures.1 in
    rw (answered.1, answered.2) (cause_along c.in_err-fill_part.field-0.0 (λ w. w) (λ f. f)
    (λ h. grind (arith, common_steps, h)) c.in_err-fill_part.ensures.answer)
