use Rattle.tiff_encode.proofs.ReadsBack.Written.{written_reads_back}
use Rattle.tiff_encode.proofs.encoder.laws.reading.written_reads_back.Goals as goal

pub returns : goal.returns
returns c = written_reads_back
