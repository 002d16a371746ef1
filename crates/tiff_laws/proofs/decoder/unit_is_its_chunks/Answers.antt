use Rattle.tiff_laws.proofs.UnitBytes.{unit_is_its_chunks}
use Rattle.tiff_laws.proofs.decoder.unit_is_its_chunks.Goals as goal

pub returns : goal.returns
returns c =
    unit_is_its_chunks c.chunks_within.ensures c.placed_each.ensures c.unit_of_chunks.ensures c.unit_where_chunks.ensures
