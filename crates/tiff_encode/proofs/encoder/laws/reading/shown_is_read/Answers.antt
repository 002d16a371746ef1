use Rattle.tiff_encode.proofs.ReadsBack.Whole.{shown_is_read}
use Rattle.tiff_encode.proofs.encoder.laws.reading.shown_is_read.Goals as goal

pub returns : goal.returns
returns c = shown_is_read
