use Rattle.tiff_encode.proofs.Open.Ends.{grown_ended}
use Rattle.tiff_encode.proofs.encoder.laws.image.grown_ended.Goals as goal

pub returns : goal.returns
returns c = grown_ended
