use Rattle.tiff_laws.proofs.SampleChunks.{buffer_of}
use Rattle.tiff_laws.proofs.decoder.buffer_of_chunks.Goals as goal

pub returns : goal.returns
returns c =
    buffer_of c.some_bytes.ensures c.image_is_its_chunks.ensures c.refused_where_chunks.ensures c.buffer_by_bytes.ensures
