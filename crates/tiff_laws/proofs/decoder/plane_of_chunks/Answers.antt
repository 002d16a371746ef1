use Rattle.tiff_laws.proofs.Whole.{plane_of_chunks}
use Rattle.tiff_laws.proofs.decoder.plane_of_chunks.Goals as goal

pub returns : goal.returns
returns c =
    plane_of_chunks c.chunks_within.ensures c.placed_each.ensures c.whole_rows.ensures c.image_of_chunks.ensures
