use Rattle.tiff_encode.proofs.ReadsBack.Entries.{reads_shown}
use Rattle.tiff_encode.proofs.encoder.laws.reading.reads_shown.Goals as goal

pub returns : goal.returns
returns c = reads_shown
