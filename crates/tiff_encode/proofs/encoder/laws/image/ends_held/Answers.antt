use Rattle.tiff_encode.proofs.Open.Ends.{ends_held}
use Rattle.tiff_encode.proofs.encoder.laws.image.ends_held.Goals as goal

pub returns : goal.returns
returns c = ends_held
