use Rattle.tiff_uses.proofs.OfChunks.{made_where_read}
use Rattle.tiff_uses.proofs.image_of_chunks.Goals as goal

pub returns-clause-made : goal.returns-clause-made
returns-clause-made g c =
    made_where_read c.read_where_chunks.ensures c.image_is_its_chunks.ensures c.args.decoder.now c.has_sides.ensures.sides c.args.buffer.now c.read_image_bytes.new.buffer
    c.read_image_bytes.result c.read_image_bytes.new.self c.read_image_bytes.ensures.follows
