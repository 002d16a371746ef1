use Rattle.tiff_laws.proofs.FirstRefused.{refused_where_chunks}
use Rattle.tiff_laws.proofs.decoder.refused_where_chunks.Goals as goal

pub returns : goal.returns
returns c = refused_where_chunks c.chunks_within.ensures c.no_fault.ensures c.first_fault.ensures
