use Rattle.std.proofs.Common.{◌+◌, ◌*◌}
use Rattle.tiff_value.proofs.Lanes.{Upto}
use Rattle.tiff_value.proofs.encoder.row_differences.less_all.Given as goal

abbrev pub invariant-parts : goal.invariant-parts
invariant-parts g l =
    Upto g.T.Whole.bits g.T.Whole.modulus l.stride l.row (l.stride + 16 * l.k) l.out

abbrev pub invariant-rest : goal.invariant-rest
invariant-rest g l = Upto g.T.Whole.bits g.T.Whole.modulus l.stride l.row l.i l.out
