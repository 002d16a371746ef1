use Rattle.tiff_laws.proofs.Samples.{chunk_by}
use Rattle.tiff_laws.proofs.decoder.chunk_by_bytes.Goals as goal

pub returns : goal.returns
returns c = chunk_by
