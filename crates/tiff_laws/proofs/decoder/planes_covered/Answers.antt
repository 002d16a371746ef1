use Rattle.tiff_laws.proofs.Covered.{planes_covered}
use Rattle.tiff_laws.proofs.decoder.planes_covered.Goals as goal

pub returns : goal.returns
returns c = planes_covered c.one_chunk.ensures
