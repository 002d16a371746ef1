use Rattle.std.proofs.lemmas.Result.{err_from_is_err_and}
use Rattle.tiff_encode.proofs.Running.Ends.{image_ending}
use Rattle.tiff_encode.proofs.Running.Images.{finish_told, finish_failed}
use Rattle.tiff_encode.proofs.encoder.jobs.finish.DirectoryEncoder+W+K+ImageState+T.finish_drawn.Goals as goal

pub returns : goal.returns
returns g c =
    finish_told c.args.self.state c.args.self.encoder.now c.finish.new.self.0
    (image_ending c.args.self.state c.args.self.encoder.now c.finish.new.self.0 c.fact_fits.ensures c.in_ok-finish.ensures.short)
    c.in_ok-finish.ensures.answer.0 c.in_ok-finish.ensures.answer.1

pub returns-in_err-finish : goal.returns-in_err-finish
returns-in_err-finish g c =
    let p = err_from_is_err_and c.from_residual.result c.from_residual.ensures.1 in
    rw (p.1, p.2) (finish_failed c.args.self.state c.args.self.encoder.now c.finish.new.self.0
    (image_ending c.args.self.state c.args.self.encoder.now c.finish.new.self.0 c.fact_fits.ensures c.in_err-finish.ensures.short)
    c.in_err-finish.field-0.0 c.in_err-finish.ensures.answer)
