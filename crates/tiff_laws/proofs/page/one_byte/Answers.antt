use Rattle.tiff_laws.proofs.Bytes.{one_byte}
use Rattle.tiff_laws.proofs.page.one_byte.Goals as goal

pub returns : goal.returns
returns c = one_byte c.chunks_within.ensures c.planes_covered.ensures
