use Rattle.std.proofs.Common.{inl}
use Rattle.std.proofs.lemmas.Result.{err_from_is_err_and}
use Rattle.tiff_base.specs.lemmas.Causes.{cause_along}
use Rattle.tiff_decode.proofs.decoder.Decoder.get_tag_unsigned.Goals as goal

pub returns-in_err-required_in-clause-answer : goal.returns-in_err-required_in-clause-answer
returns-in_err-required_in-clause-answer g c =
    let answered = err_from_is_err_and c.from_residual.result c.from_residual.ensures.1 in
    rw (answered.1, answered.2) (cause_along c.in_err-required_in.field-0.0 (λ w. w) (λ f. f) inl c.in_err-required_in.ensures.read.answer)
