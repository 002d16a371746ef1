use Rattle.std.proofs.Common.{rules, ap}
use Rattle.tiff_encode.proofs.Endings.{image_unfinished, image_ends}
use Rattle.tiff_encode.proofs.encoder.TiffEncoder.finish_image.Goals as goal

pub returns-in_err-set_last : goal.returns-in_err-set_last
returns-in_err-set_last g c =
    let told =
    image_unfinished c.args.image.now c.args.self.now c.in_err-set_last.field-0.0 c.set_last.new.self c.in_err-set_last.ensures in
    search rules

pub returns : goal.returns
returns g c =
    image_ends c.args.image.now c.args.self.now (λ d. d) c.set_last.new.image.directory c.image.inside.directory c.finish_directory.result
    c.set_last.new.self c.finish_directory.new.self c.in_ok-set_last.ensures
    (ap (λ i. i.directory) c.image.view_is) c.finish_directory.ensures
