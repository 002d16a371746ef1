use Rattle.std.proofs.Common.{◌^◌}
use Rattle.tiff_base.specs.Types.{type_size}
use Rattle.tiff_value.proofs.Chunk.{pushed_plain}
use Rattle.tiff_value.proofs.encoder.chunk.push_chunk.Goals as goal

pub returns-in_default : goal.returns-in_default
returns-in_default g c =
    pushed_plain (type_size g.T.TiffValue.value_type) g.T.Sample.bits g.T.TiffScalar.spelled g.met.T.Sample.by_bits
    c.push_all.result c.args.rows.predictor (256 ^ type_size g.T.TiffValue.value_type) c.args.rows.row c.args.rows.stride c.args.rows.samples.now
    c.args.out.now.items c.reserve.new.self.items c.push_all.new.out.items c.in_default.not-Horizontal c.in_ok-reserve.ensures.items c.push_all.ensures.answer
