use Rattle.tiff_base.specs.Types.{type_size}
use Rattle.tiff_value.proofs.Parts.{PutUpto, written}
use Rattle.tiff_value.proofs.encoder.row_differences.put_row_part.Given as goal

abbrev pub invariant-first : goal.invariant-first
invariant-first g l =
    PutUpto (written g.T.Whole.bits (type_size g.T.TiffValue.value_type) g.T.Whole.modulus g.met.T.Whole.all l.stride l.row) (type_size g.T.TiffValue.value_type) l.at l.end l.k l.out

abbrev pub invariant-later : goal.invariant-later
invariant-later g l =
    PutUpto (written g.T.Whole.bits (type_size g.T.TiffValue.value_type) g.T.Whole.modulus g.met.T.Whole.all l.stride l.row) (type_size g.T.TiffValue.value_type) l.at l.end l.k l.out
