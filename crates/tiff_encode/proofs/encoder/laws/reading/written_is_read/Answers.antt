use Rattle.tiff_encode.proofs.ReadsBack.Whole.{written_is_read}
use Rattle.tiff_encode.proofs.encoder.laws.reading.written_is_read.Goals as goal

pub returns : goal.returns
returns c = written_is_read
