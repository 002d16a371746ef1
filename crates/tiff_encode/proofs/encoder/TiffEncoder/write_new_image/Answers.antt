use Rattle.std.proofs.Common.{inr}
use Rattle.std.proofs.lemmas.Result.{err_from_is_err_and}
use Rattle.tiff_encode.proofs.encoder.TiffEncoder.write_new_image.Goals as goal

pub returns : goal.returns
returns g c =
    inr (c.in_ok-image.image, (c.begin_image.new.self, (c.in_ok-image.ensures, c.in_ok-write_image_data.ensures)))

pub returns-in_err-write_image_data : goal.returns-in_err-write_image_data
returns-in_err-write_image_data g c =
    let p =
    err_from_is_err_and c.from_residual-in_err-write_image_data.result c.from_residual-in_err-write_image_data.ensures.1 in
    rw (p.1, p.2) (inr (c.in_ok-image.image, (c.begin_image.new.self, (c.in_ok-image.ensures, c.in_err-write_image_data.ensures))))
