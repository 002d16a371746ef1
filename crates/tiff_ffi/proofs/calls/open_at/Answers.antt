use Rattle.std.proofs.Common.{Result, subst}
use Rattle.tiff_base.specs.declared.error.TiffError.{TiffError}
use Rattle.tiff_base.specs.Answers.{AnswersWithoutSource}
use Rattle.tiff_decode.specs.Machine.{Decoding}
use Rattle.tiff_ffi.proofs.Counting.{at_first_page}
use Rattle.tiff_ffi.proofs.calls.open_at.Goals as goal

pub returns-then-page-eq0 : goal.returns-then-page-eq0
returns-then-page-eq0 c =
    let P : Result Decoding TiffError → Type 0 =
    λ g. AnswersWithoutSource (λ d. d) c.open_first.result g in
    subst P (at_first_page c.opens_first.ensures c.args.file.now c.args.page c.if-page-eq0.true) c.open_first.ensures
