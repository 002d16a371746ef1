use Rattle.std.proofs.Common.{Result, subst, sym}
use Rattle.tiff_base.specs.declared.error.TiffError.{TiffError}
use Rattle.tiff_ffi.specs.declared.appended.BehindFile.{BehindFile}
use Rattle.tiff_ffi.specs.Appended.{AnswersAppend}
use Rattle.tiff_ffi.proofs.PagesRan.{append_fails, is_error}
use Rattle.tiff_ffi.proofs.appended.run_appended.Goals as goal

pub returns-in_err-target : goal.returns-in_err-target
returns-in_err-target c =
    let e : TiffError = c.in_err-target.field-0.0 in
    let Answer : Result BehindFile TiffError → Type 0 =
    λ r. AnswersAppend c.args.file.now c.args.pages.now r in
    subst Answer (sym (is_error e c.from_residual-in_err-target.result c.from_residual-in_err-target.ensures.1))
    (append_fails c.args.file.now c.args.pages.now c.in_ok-place.place e c.in_ok-place.ensures.answer c.in_err-target.ensures)
