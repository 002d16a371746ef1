use Rattle.tiff_laws.proofs.UnitChunks.{unit_where_chunks}
use Rattle.tiff_laws.proofs.decoder.unit_where_chunks.Goals as goal

pub returns : goal.returns
returns c = unit_where_chunks c.no_fault.ensures
