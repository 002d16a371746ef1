use Rattle.tiff_encode.proofs.Tagging.{long_is}
use Rattle.tiff_encode.proofs.encoder.directory.values.TagValue.long.Goals as goal

pub returns : goal.returns
returns c =
    long_is c.of.result c.args.tag c.to_le_bytes.result c.args.n c.of.ensures c.to_le_bytes.ensures
