use Rattle.std.proofs.Common.{arith}
use Rattle.std.proofs.lemmas.Grind.{common_steps}
use Rattle.std.proofs.lemmas.Result.{err_from_is_err_and}
use Rattle.tiff_base.specs.FieldBytes.{field_bytes}
use Rattle.tiff_base.specs.lemmas.Causes.{cause_along}
use Rattle.tiff_ifd.specs.lemmas.Within.{read_within}
use Rattle.tiff_ifd.proofs.field_reader.FieldReader.read_placed_value.Goals as goal

pub returns-in_err-bytes-clause-answer : goal.returns-in_err-bytes-clause-answer
unfolding field_bytes
returns-in_err-bytes-clause-answer g c =
    let answered = err_from_is_err_and c.from_residual.result c.from_residual.ensures.1 in
    rw (answered.1, answered.2) (cause_along c.in_err-bytes.field-0.0
    (λ w. grind (arith, common_steps, w, read_within)) (λ f. f)
    (λ h. grind (arith, common_steps, h)) c.in_err-bytes.ensures.answer)
