use Rattle.tiff_encode.proofs.Image.Fits.{new_image_fits}
use Rattle.tiff_encode.proofs.encoder.laws.fit.new_image_fits.Goals as goal

pub returns : goal.returns
returns c = new_image_fits
