use Rattle.tiff_encode.proofs.Image.Fits.{resolutions_fit}
use Rattle.tiff_encode.proofs.encoder.laws.fit.resolutions_fit.Goals as goal

pub returns : goal.returns
returns c = resolutions_fit
