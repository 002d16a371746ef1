use Rattle.tiff_laws.proofs.Samples.{buffer_by}
use Rattle.tiff_laws.proofs.decoder.buffer_by_bytes.Goals as goal

pub returns : goal.returns
returns c = buffer_by c.some_bytes.ensures
