use Rattle.std.proofs.Common.{◌++◌, ◌∙◌}
use Rattle.tiff_encode.proofs.Tagging.{shorts_are}
use Rattle.tiff_encode.proofs.encoder.directory.values.TagValue.shorts.Goals as goal

pub returns : goal.returns
returns c =
    shorts_are c.of.result c.args.tag c.join_shorts.result c.args.a c.args.b c.of.ensures
    (c.join_shorts.ensures ∙ (λ i. c.to_le_bytes.ensures i ++ c.to_le_bytes-2.ensures i))
