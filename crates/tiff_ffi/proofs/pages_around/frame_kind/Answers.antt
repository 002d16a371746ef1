use Rattle.std.proofs.Common.{Result, subst, sym}
use Rattle.tiff_base.specs.declared.error.TiffError.{TiffError}
use Rattle.tiff_ffi.specs.declared.pages_around.FramedAnswer.{FramedAnswer}
use Rattle.tiff_ffi.specs.PagesFrame.{AnswersFramed}
use Rattle.tiff_ffi.proofs.FramedPages.{framed_fails, framed_ran}
use Rattle.tiff_ffi.proofs.PagesRan.{is_error}
use Rattle.tiff_ffi.proofs.pages_around.frame_kind.Goals as goal

pub returns-in_err-run_framed-in-Ok : goal.returns-in_err-run_framed-in-Ok
returns-in_err-run_framed-in-Ok c =
    let e : TiffError = c.in_err-run_framed-in-Ok.field-0.0 in
    let Answer : Result FramedAnswer TiffError → Type 0 =
    λ r. AnswersFramed c.args.kind c.args.most c.args.pages.now r in
    subst Answer (sym (is_error e c.from_residual.result c.from_residual.ensures.1))
    (framed_fails c.args.kind c.args.pages.now c.in-Ok.jobs c.in-Ok.ensures c.args.most e c.in_err-run_framed-in-Ok.ensures)

pub returns-in_ok-run_framed-in-Ok : goal.returns-in_ok-run_framed-in-Ok
returns-in_ok-run_framed-in-Ok c =
    framed_ran c.args.kind c.args.pages.now c.in-Ok.jobs c.in-Ok.ensures c.args.most c.in_ok-run_framed-in-Ok.field-0 c.in_ok-run_framed-in-Ok.ensures
