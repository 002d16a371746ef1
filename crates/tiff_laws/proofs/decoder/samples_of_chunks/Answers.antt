use Rattle.tiff_laws.proofs.SampleChunks.{samples_of}
use Rattle.tiff_laws.proofs.decoder.samples_of_chunks.Goals as goal

pub returns : goal.returns
returns c =
    samples_of c.some_bytes.ensures c.image_is_its_chunks.ensures c.refused_where_chunks.ensures c.image_by_bytes.ensures
