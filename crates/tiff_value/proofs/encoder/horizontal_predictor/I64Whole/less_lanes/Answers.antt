use Rattle.std.specs.Int.{w64}
use Rattle.tiff_value.proofs.Lanes.{signed_stored}
use Rattle.tiff_value.proofs.encoder.horizontal_predictor.I64Whole.less_lanes.Goals as goal

pub returns : goal.returns
returns c =
    signed_stored w64 16 c.args.at c.args.before c.args.row.now c.args.out.now c.requires.out c.requires.order c.requires.row
