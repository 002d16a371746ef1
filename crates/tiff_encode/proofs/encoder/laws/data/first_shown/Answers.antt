use Rattle.tiff_encode.proofs.Shown.Gray.{first_shown}
use Rattle.tiff_encode.proofs.encoder.laws.data.first_shown.Goals as goal

pub returns : goal.returns
returns c = first_shown
