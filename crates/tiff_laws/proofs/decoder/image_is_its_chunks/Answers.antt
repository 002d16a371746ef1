use Rattle.tiff_laws.proofs.Made.{image_is_its_chunks}
use Rattle.tiff_laws.proofs.decoder.image_is_its_chunks.Goals as goal

pub returns : goal.returns
returns c =
    image_is_its_chunks c.placed_each.ensures c.plane_of_chunks.ensures c.planes_covered.ensures c.read_where_chunks.ensures
