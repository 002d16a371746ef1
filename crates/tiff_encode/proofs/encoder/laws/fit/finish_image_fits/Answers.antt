use Rattle.tiff_encode.proofs.Image.Fits.{finish_image_fits}
use Rattle.tiff_encode.proofs.encoder.laws.fit.finish_image_fits.Goals as goal

pub returns : goal.returns
returns c = finish_image_fits
