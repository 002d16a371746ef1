use Rattle.tiff_encode.proofs.ReadsBack.Whole.{all_shown}
use Rattle.tiff_encode.proofs.encoder.laws.reading.all_shown.Goals as goal

pub returns : goal.returns
returns c = all_shown
