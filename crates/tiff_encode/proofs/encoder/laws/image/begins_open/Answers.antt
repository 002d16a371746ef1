use Rattle.tiff_encode.proofs.Open.Begun.{begins_open}
use Rattle.tiff_encode.proofs.encoder.laws.image.begins_open.Goals as goal

pub returns : goal.returns
returns c = begins_open
