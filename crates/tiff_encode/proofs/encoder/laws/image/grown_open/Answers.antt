use Rattle.tiff_encode.proofs.Open.Held.{grown_open}
use Rattle.tiff_encode.proofs.encoder.laws.image.grown_open.Goals as goal

pub returns : goal.returns
returns c = grown_open
