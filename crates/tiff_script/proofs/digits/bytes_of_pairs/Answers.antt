use Rattle.std.proofs.Common.{rules, sym}
use Rattle.tiff_script.proofs.DigitPairs.{ended, no_pair, one_read}
use Rattle.tiff_script.proofs.digits.bytes_of_pairs.Goals as goal

pub returns-in_default-byte_of : goal.returns-in_default-byte_of
returns-in_default-byte_of c =
    no_pair _ _ _ c.in-len2-up.len_at_least (sym c.in_default-byte_of.ensures) c.loop-rest.invariant

pub loop-rest-preserved : goal.loop-rest-preserved
loop-rest-preserved c = search (rules, one_read)

pub returns : goal.returns
returns c =
    rw (c.then_some.ensures, c.is_empty.ensures) (ended (λ v. v.items) c.loop-rest.bytes _ _ c.in_default.len_below c.loop-rest.invariant)
