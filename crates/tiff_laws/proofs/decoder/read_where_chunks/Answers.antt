use Rattle.tiff_laws.proofs.WhereChunks.{read_where_chunks}
use Rattle.tiff_laws.proofs.decoder.read_where_chunks.Goals as goal

pub returns : goal.returns
returns c = read_where_chunks c.chunks_within.ensures c.no_fault.ensures
