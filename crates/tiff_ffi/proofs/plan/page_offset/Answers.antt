use Rattle.std.proofs.Common.{arith}
use Rattle.std.proofs.lemmas.Result.{err_from_is_err_and}
use Rattle.tiff_base.specs.Header.{Header}
use Rattle.tiff_base.specs.lemmas.Causes.{cause_along}
use Rattle.tiff_ffi.proofs.Plans.{unfound}
use Rattle.tiff_ffi.proofs.plan.page_offset.Goals as goal

pub returns-in_err-offset-clause-answer : goal.returns-in_err-offset-clause-answer
returns-in_err-offset-clause-answer g c =
    let answered = err_from_is_err_and c.from_residual.result c.from_residual.ensures.1 in
    let header : Header = record {
      order = c.args.header.now.order;
      kind = c.args.header.now.kind;
      first = c.args.header.now.first;
    } in
    let file = (g.R.Source.contents c.args.source.now).bytes in
    rw (answered.1, answered.2) (cause_along c.in_err-offset.field-0.0 (λ w. w) (λ f. f)
    (λ cut.
    let told = cut header.first (c.new-walk.ensures.begins header.kind header.order file) in
    unfound header file c.args.page _ c.in_err-offset.field-0.0 (omega (arith, c.if-page-ge-AT.false)) told.0 told.1)
    c.in_err-offset.ensures.cut)
