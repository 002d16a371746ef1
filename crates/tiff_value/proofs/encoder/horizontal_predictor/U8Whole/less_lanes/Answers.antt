use Rattle.std.proofs.Common.{ℕ, ◌^◌, refl}
use Rattle.tiff_value.proofs.Lanes.{lanes_stored}
use Rattle.tiff_value.proofs.encoder.horizontal_predictor.U8Whole.less_lanes.Goals as goal

pub returns : goal.returns
returns c =
    lanes_stored (λ (n : ℕ). n) (2 ^ 8) _ 0 16 c.args.at c.args.before c.args.row.now c.args.out.now c.requires.out c.requires.order c.requires.row (λ x y. refl)
