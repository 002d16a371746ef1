use Rattle.tiff_encode.proofs.Open.Kept.{resolutions_keep_open}
use Rattle.tiff_encode.proofs.encoder.laws.image.resolutions_keep_open.Goals as goal

pub returns : goal.returns
returns c = resolutions_keep_open
