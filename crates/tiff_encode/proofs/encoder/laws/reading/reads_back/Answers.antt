use Rattle.tiff_encode.proofs.ReadsBack.Entries.{reads_back}
use Rattle.tiff_encode.proofs.encoder.laws.reading.reads_back.Goals as goal

pub returns : goal.returns
returns c = reads_back
