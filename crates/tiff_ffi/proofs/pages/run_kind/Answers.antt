use Rattle.std.proofs.Common.{Ok, Result, subst, sym}
use Rattle.tiff_base.specs.declared.error.TiffError.{TiffError}
use Rattle.tiff_ffi.specs.declared.pages.PagesAnswer.{PagesAnswer}
use Rattle.tiff_ffi.specs.Pages.{AnswersPages, LeftPages}
use Rattle.tiff_ffi.proofs.PagesRan.{is_error, jobs_fail, jobs_ran}
use Rattle.tiff_ffi.proofs.pages.run_kind.Goals as goal

pub returns-in_err-run_in-in-Ok : goal.returns-in_err-run_in-in-Ok
returns-in_err-run_in-in-Ok c =
    let e : TiffError = c.in_err-run_in-in-Ok.field-0.0 in
    let Answer : Result PagesAnswer TiffError → Type 0 =
    λ r. AnswersPages c.args.kind c.args.pages.now r in
    subst Answer (sym (is_error e c.from_residual.result c.from_residual.ensures.1))
    (jobs_fail c.args.kind c.args.pages.now c.in-Ok.jobs c.in-Ok.ensures e c.in_err-run_in-in-Ok.ensures)

pub returns-in_ok-run_in-in-Ok : goal.returns-in_ok-run_in-in-Ok
returns-in_ok-run_in-in-Ok c =
    let outcome : Result LeftPages TiffError =
    Ok (c.in_ok-run_in-in-Ok.field-0.file.items, c.in_ok-run_in-in-Ok.field-0.refused) in
    jobs_ran c.args.kind c.args.pages.now c.in-Ok.jobs c.in-Ok.ensures outcome c.in_ok-run_in-in-Ok.ensures
