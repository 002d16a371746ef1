use Rattle.std.proofs.Common.{◌++◌, ◌∙◌}
use Rattle.tiff_encode.proofs.Tagging.{rational_is}
use Rattle.tiff_encode.proofs.encoder.directory.values.TagValue.rational.Goals as goal

pub returns : goal.returns
returns c =
    rational_is c.of.result c.args.tag c.join_longs.result c.args.n c.args.d c.of.ensures
    (c.join_longs.ensures ∙ (λ i. c.to_le_bytes.ensures i ++ c.to_le_bytes-2.ensures i))
