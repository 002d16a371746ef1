use Rattle.tiff_encode.proofs.Image.Fits.{settings_fit}
use Rattle.tiff_encode.proofs.encoder.laws.fit.settings_fit.Goals as goal

pub returns : goal.returns
returns c = settings_fit
