use Rattle.tiff_encode.proofs.CallFits.{placed_fits}
use Rattle.tiff_encode.proofs.encoder.laws.placed_fits.Goals as goal

pub returns : goal.returns
returns c = placed_fits
