use Rattle.tiff_encode.proofs.CallFits.{finish_fits}
use Rattle.tiff_encode.proofs.encoder.laws.finish_fits.Goals as goal

pub returns : goal.returns
returns c = finish_fits
