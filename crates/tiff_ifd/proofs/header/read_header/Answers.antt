use Rattle.std.proofs.Common.{◌≡◌, ◌∙◌, ℕ, List, Ok, Err, arith, subst}
use Rattle.std.proofs.lemmas.Result.{err_from_is_err_and}
use Rattle.std.specs.Int.{w16, w32}
use Rattle.tiff_base.specs.lemmas.Causes.{cause_along}
use Rattle.tiff_base.specs.lemmas.Contents.{same_bytes}
use Rattle.tiff_base.specs.Number.{number_at}
use Rattle.tiff_ifd.proofs.Headers.{classic_cut, no_order, versioned}
use Rattle.tiff_ifd.proofs.header.read_header.Goals as goal

pub returns-in_err-order-clause-answer : goal.returns-in_err-order-clause-answer
returns-in_err-order-clause-answer g c =
    let answered = err_from_is_err_and c.from_residual.result c.from_residual.ensures.1 in
    rw (answered.1, answered.2) (cause_along c.in_err-order.field-0.0 (λ w. w) (λ f. f) (λ h. no_order (g.R.Source.contents c.args.source.now).bytes _ h)
    c.in_err-order.ensures.answer)

pub returns-in_err-version-clause-answer : goal.returns-in_err-version-clause-answer
returns-in_err-version-clause-answer g c =
    let answered =
    err_from_is_err_and c.from_residual-in_err-version.result c.from_residual-in_err-version.ensures.1 in
    rw (answered.1, answered.2) (cause_along c.in_err-version.field-0.0 (λ w. w) (λ f. omega (arith, f, c.in_ok-order.ensures.kept.failures))
    (λ h. versioned (g.R.Source.contents c.args.source.now).bytes c.in_ok-order.order _ c.in_ok-order.ensures.answer
    (subst (λ (bs : List ℕ). number_at c.in_ok-order.order w16 bs 2 ≡ Err c.in_err-version.field-0.0) (same_bytes c.in_ok-order.ensures.kept.contents) h))
    c.in_err-version.ensures.answer)

pub returns-in_err-read_u32_at-in-42-clause-answer : goal.returns-in_err-read_u32_at-in-42-clause-answer
returns-in_err-read_u32_at-in-42-clause-answer g c =
    let answered =
    err_from_is_err_and c.from_residual-in_err-read_u32_at-in-42.result c.from_residual-in_err-read_u32_at-in-42.ensures.1 in
    let same = same_bytes c.in_ok-order.ensures.kept.contents in
    let behind =
    same_bytes (c.in_ok-version.ensures.kept.contents ∙ c.in_ok-order.ensures.kept.contents) in
    rw (answered.1, answered.2) (cause_along c.in_err-read_u32_at-in-42.field-0.0 (λ w. w) (λ f. omega (arith, f, c.in_ok-order.ensures.kept.failures, c.in_ok-version.ensures.kept.failures))
    (λ h. classic_cut (g.R.Source.contents c.args.source.now).bytes c.in_ok-order.order c.in_ok-version.version _ c.in_ok-order.ensures.answer
    (subst (λ (bs : List ℕ). number_at c.in_ok-order.order w16 bs 2
    ≡ Ok c.in_ok-version.version) same c.in_ok-version.ensures.answer) (omega arith)
    (subst (λ (bs : List ℕ). number_at c.in_ok-order.order w32 bs 4 ≡ Err c.in_err-read_u32_at-in-42.field-0.0) behind h))
    c.in_err-read_u32_at-in-42.ensures.answer)
