use Rattle.tiff_encode.proofs.Image.Fits.{chunks_fit}
use Rattle.tiff_encode.proofs.encoder.laws.fit.chunks_fit.Goals as goal

pub returns : goal.returns
returns c = chunks_fit
