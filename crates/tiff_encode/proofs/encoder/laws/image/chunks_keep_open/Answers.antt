use Rattle.tiff_encode.proofs.Open.Chunks.{chunks_keep_open}
use Rattle.tiff_encode.proofs.encoder.laws.image.chunks_keep_open.Goals as goal

pub returns : goal.returns
returns c = chunks_keep_open
