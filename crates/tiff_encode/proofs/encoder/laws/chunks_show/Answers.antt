use Rattle.tiff_encode.proofs.Shown.Chunks.{chunks_show}
use Rattle.tiff_encode.proofs.encoder.laws.chunks_show.Goals as goal

pub returns : goal.returns
returns c = chunks_show
