use Rattle.tiff_encode.proofs.Shown.Gray.{gray_shown}
use Rattle.tiff_encode.proofs.encoder.laws.data.gray_shown.Goals as goal

pub returns : goal.returns
returns c = gray_shown
