use Rattle.tiff_encode.proofs.Open.Settings.{settings_keep_open}
use Rattle.tiff_encode.proofs.encoder.laws.image.settings_keep_open.Goals as goal

pub returns : goal.returns
returns c = settings_keep_open
