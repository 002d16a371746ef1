use Rattle.std.proofs.Common.{subst, sym}
use Rattle.tiff_base.specs.Types.{type_size}
use Rattle.tiff_encode.specs.Given.{given_numbers}
use Rattle.tiff_encode.specs.ImageData.{AreNumbers}
use Rattle.tiff_encode.proofs.Data.Shows.{data_leaves}
use Rattle.tiff_encode.proofs.encoder.image.encoder.DirectoryEncoder+W+K+ImageState+T.write_given.Goals as goal

pub returns-clause-leaves : goal.returns-clause-leaves
returns-clause-leaves g c m s p =
    let numbers =
    given_numbers (type_size g.T.TiffValue.value_type) g.T.Sample.bits c.args.samples in
    data_leaves c.args.self.state numbers c.write_image_data-done.result c.args.self.encoder.now c.write_image_data-done.new.self m c.fact_fits.ensures
    (subst (λ size. AreNumbers size numbers) (sym c.fact_type.ensures) c.fact_numbers.ensures) c.fact_short.ensures s p c.write_image_data-done.ensures
