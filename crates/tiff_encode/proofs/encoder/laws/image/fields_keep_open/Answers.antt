use Rattle.tiff_encode.proofs.Open.Kept.{fields_keep_open}
use Rattle.tiff_encode.proofs.encoder.laws.image.fields_keep_open.Goals as goal

pub returns : goal.returns
returns c = fields_keep_open
