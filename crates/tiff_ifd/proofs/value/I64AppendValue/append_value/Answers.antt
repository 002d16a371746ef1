use Rattle.tiff_ifd.proofs.Joined.{no_rational, number_refused}
use Rattle.tiff_ifd.proofs.value.I64AppendValue.append_value.Goals as goal

pub returns-in_err-into_i64-in_default-clause-answer : goal.returns-in_err-into_i64-in_default-clause-answer
returns-in_err-into_i64-in_default-clause-answer c =
    number_refused _ _ c.args.out.now.items _ _ c.from_residual.ensures.1
    (no_rational c.args.value c.in_default.not-SRational c.in_default.not-SRationalBig).1
    c.in_err-into_i64-in_default.ensures
