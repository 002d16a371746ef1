use Rattle.std.proofs.Common.{ℕ, Result, subst, sym}
use Rattle.tiff_base.specs.declared.error.TiffError.{TiffError}
use Rattle.tiff_ffi.specs.declared.pages.PagesAnswer.{PagesAnswer}
use Rattle.tiff_ffi.specs.Appended.{AnswersBehind}
use Rattle.tiff_ffi.proofs.PagesRan.{behind_answered, behind_fails, is_error}
use Rattle.tiff_ffi.proofs.appended.run_pages_at.Goals as goal

pub returns-in_err-link-in-Ok : goal.returns-in_err-link-in-Ok
returns-in_err-link-in-Ok c =
    let e : TiffError = c.in_err-link-in-Ok.field-0.0 in
    let Answer : Result (ℕ × PagesAnswer) TiffError → Type 0 =
    λ r. AnswersBehind c.args.place.kind c.args.file.now c.args.place.at c.args.pages.now r in
    subst Answer (sym (is_error e c.from_residual.result c.from_residual.ensures.1))
    (behind_fails c.args.place.kind c.args.pages.now c.in-Ok.jobs c.in-Ok.ensures c.args.file.now c.args.place.at e c.in_err-link-in-Ok.ensures)

pub returns-in_ok-link-in-Ok : goal.returns-in_ok-link-in-Ok
returns-in_ok-link-in-Ok c =
    behind_answered c.args.place.kind c.args.pages.now c.in-Ok.jobs c.in-Ok.ensures c.args.file.now c.args.place.at c.number_of.result
    c.in_ok-link-in-Ok.link.items c.in_ok-link-in-Ok.written (rw c.deref.ensures.value at c.number_of.ensures) c.in_ok-link-in-Ok.ensures
