use Rattle.std.proofs.Common.{Err, List, ap, arith, length, ◌∙◌, ◌≡◌, ℕ, subst, sym}
use Rattle.std.proofs.lemmas.Result.{err_from_is_err_and}
use Rattle.tiff_base.specs.Directory.{offset_width}
use Rattle.tiff_base.specs.Number.{number_at}
use Rattle.tiff_base.specs.lemmas.Causes.{cause_along}
use Rattle.tiff_base.specs.lemmas.Contents.{same_bytes}
use Rattle.tiff_ifd.specs.lemmas.Entries.{directory_cut, directory_unlinked}
use Rattle.tiff_ifd.proofs.decode.read_directory.Goals as goal

pub returns-in_err-entries-clause-answer : goal.returns-in_err-entries-clause-answer
returns-in_err-entries-clause-answer g c =
    let answered =
    err_from_is_err_and c.from_residual-in_err-entries.result c.from_residual-in_err-entries.ensures.1 in
    let same = ap length (same_bytes c.in_ok-count.ensures.kept.contents) in
    rw (answered.1, answered.2) (cause_along c.in_err-entries.field-0.0 (λ w. w)
    (λ f. omega (arith, f, c.in_ok-count.ensures.kept.failures))
    (λ h. directory_cut c.args.kind c.args.order (g.R.Source.contents c.args.source.now).bytes c.args.at c.in_ok-count.count c.in_ok-count.ensures.answer
    (omega (arith, h.1, same, c.count_len.ensures)) ∙ ap Err (sym h.0))
    c.in_err-entries.ensures.cut)

pub returns-in_err-next-clause-answer : goal.returns-in_err-next-clause-answer
returns-in_err-next-clause-answer g c =
    let answered =
    err_from_is_err_and c.from_residual-in_err-next.result c.from_residual-in_err-next.ensures.1 in
    let same =
    same_bytes (c.in_ok-entries.ensures.kept.contents ∙ c.in_ok-count.ensures.kept.contents) in
    rw (answered.1, answered.2) (cause_along c.in_err-next.field-0.0 (λ w. absurd w)
    (λ f. omega (arith, f, c.in_ok-count.ensures.kept.failures, c.in_ok-entries.ensures.kept.failures))
    (λ h. directory_unlinked c.args.kind c.args.order (g.R.Source.contents c.args.source.now).bytes c.args.at c.in_ok-count.count c.in_ok-entries.offset c.in_err-next.field-0.0 c.in_ok-count.ensures.answer
    (c.in_ok-entries.ensures.offset ∙ omega (arith, c.count_len.ensures))
    (subst (λ (bs : List ℕ). number_at c.args.order (offset_width c.args.kind) bs c.in_ok-entries.offset ≡ Err c.in_err-next.field-0.0) same h))
    c.in_err-next.ensures.answer)
