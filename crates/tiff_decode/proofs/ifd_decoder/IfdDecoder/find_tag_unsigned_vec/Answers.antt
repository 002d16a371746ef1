use Rattle.std.proofs.Common.{ℕ, List, Some, Ok, inl, ap, sym, ◌∙◌}
use Rattle.std.proofs.lemmas.Result.{err_from_is_err_and}
use Rattle.tiff_base.specs.lemmas.Causes.{cause_along}
use Rattle.tiff_decode.specs.Reader.{reading}
use Rattle.tiff_decode.proofs.Required.{unfit_found}
use Rattle.tiff_decode.proofs.ifd_decoder.IfdDecoder.find_tag_unsigned_vec.Goals as goal

pub returns-in_err-numbers_in-clause-answer : goal.returns-in_err-numbers_in-clause-answer
returns-in_err-numbers_in-clause-answer g c =
    let answered = err_from_is_err_and c.from_residual.result c.from_residual.ensures.1 in
    rw (answered.1, answered.2) (cause_along c.in_err-numbers_in.field-0.0 (λ w. w) (λ f. f) inl c.in_err-numbers_in.ensures.read.answer)

pub returns-in_err-all_as-in-Some-clause-answer : goal.returns-in_err-all_as-in-Some-clause-answer
returns-in_err-all_as-in-Some-clause-answer g c =
    let answered =
    err_from_is_err_and c.from_residual-in_err-all_as-in-Some.result c.from_residual-in_err-all_as-in-Some.ensures.1 in
    let found = rw c.in-Some.is at c.in_ok-numbers_in.ensures.read.answer in
    let seen = found ∙ ap (λ (ns : List ℕ). Ok (Some ns)) (sym c.deref.ensures.value) in
    rw (answered.1, answered.2) (unfit_found g.T.TryFrom.try_from_gives (reading c.args.self.now) _ c.args.tag c.deref.result.now c.in_err-all_as-in-Some.field-0.0 seen c.in_err-all_as-in-Some.ensures)
