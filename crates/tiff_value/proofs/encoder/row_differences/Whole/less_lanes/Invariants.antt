use Rattle.tiff_value.proofs.Lanes.{LessUpto}
use Rattle.tiff_value.proofs.encoder.row_differences.Whole.less_lanes.Given as goal

abbrev pub invariant-each : goal.invariant-each
invariant-each g l =
    LessUpto g.Self.Whole.bits g.Self.Whole.modulus l.at l.before l.row 16 l.k l.out
