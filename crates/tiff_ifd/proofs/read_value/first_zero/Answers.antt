use Rattle.std.proofs.Common.{rules, arith, sym}
use Rattle.std.proofs.lemmas.List.Sums.{position_or_len_is}
use Rattle.tiff_ifd.specs.FieldValue.{is_zero}
use Rattle.tiff_ifd.proofs.read_value.first_zero.Goals as goal

pub returns-else-bytes-n-ne0-clause-value : goal.returns-else-bytes-n-ne0-clause-value
returns-else-bytes-n-ne0-clause-value c =
    sym (position_or_len_is is_zero c.args.bytes.now c.loop-n.n 0 c.loop-n.invariant.in_range c.loop-n.invariant.zeros (λ h. search rules))

pub returns-after-loop-n-clause-value : goal.returns-after-loop-n-clause-value
returns-after-loop-n-clause-value c =
    sym (position_or_len_is is_zero c.args.bytes.now c.loop-n.n 0 c.loop-n.invariant.in_range c.loop-n.invariant.zeros (λ h. absurd (omega arith)))
