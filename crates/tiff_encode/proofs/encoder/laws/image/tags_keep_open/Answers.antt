use Rattle.tiff_encode.proofs.Open.Kept.{tags_keep_open}
use Rattle.tiff_encode.proofs.encoder.laws.image.tags_keep_open.Goals as goal

pub returns : goal.returns
returns c = tags_keep_open
