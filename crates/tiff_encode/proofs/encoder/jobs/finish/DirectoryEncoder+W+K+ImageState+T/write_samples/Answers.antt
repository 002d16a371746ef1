use Rattle.std.proofs.Common.{subst, sym}
use Rattle.std.proofs.lemmas.Result.{err_from_is_err_and}
use Rattle.tiff_base.specs.Types.{type_size}
use Rattle.tiff_encode.specs.Given.{given_numbers}
use Rattle.tiff_encode.specs.ImageData.{AreNumbers}
use Rattle.tiff_encode.proofs.Running.Images.{data_told, data_failed}
use Rattle.tiff_encode.proofs.encoder.jobs.finish.DirectoryEncoder+W+K+ImageState+T.write_samples.Goals as goal

pub returns : goal.returns
returns g c =
    let samples =
    given_numbers (type_size g.T.TiffValue.value_type) g.T.Sample.bits c.args.samples in
    data_told c.args.self.state samples c.args.self.encoder.now c.write_given.new.self.0 c.fact_fits.ensures
    (subst (λ size. AreNumbers size samples) (sym c.fact_type.ensures) c.fact_numbers.ensures)
    c.in_ok-write_given.ensures.short c.in_ok-write_given.ensures.answer

pub returns-in_err-write_given : goal.returns-in_err-write_given
returns-in_err-write_given g c =
    let p = err_from_is_err_and c.from_residual.result c.from_residual.ensures.1 in
    let samples =
    given_numbers (type_size g.T.TiffValue.value_type) g.T.Sample.bits c.args.samples in
    rw (p.1, p.2) (data_failed c.args.self.state samples c.args.self.encoder.now c.write_given.new.self.0 c.fact_fits.ensures
    (subst (λ size. AreNumbers size samples) (sym c.fact_type.ensures) c.fact_numbers.ensures)
    c.in_err-write_given.ensures.short c.in_err-write_given.field-0.0 c.in_err-write_given.ensures.answer)
