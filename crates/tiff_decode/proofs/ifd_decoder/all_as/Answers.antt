use Rattle.std.proofs.Common.{rules, arith}
use Rattle.tiff_decode.proofs.Numbers.{first_unfit}
use Rattle.tiff_decode.proofs.ifd_decoder.all_as.Goals as goal

pub returns-in_err-as_type : goal.returns-in_err-as_type
returns-in_err-as_type g c =
    let told =
    first_unfit g.T.TryFrom.try_from_gives c.args.tag c.args.numbers.now c.loop-n.all.items c.loop-n.n-index _ c.in_err-as_type.field-0.0
    (omega (arith, c.loop-n-test.true)) c.loop-n.invariant c.in_err-as_type.ensures in search rules
