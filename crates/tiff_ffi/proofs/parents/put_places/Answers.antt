use Rattle.std.proofs.Common.{sym, ◌∙◌, arith}
use Rattle.tiff_ffi.proofs.Links.{all_placed}
use Rattle.tiff_ffi.proofs.parents.put_places.Goals as goal

pub returns : goal.returns
returns c =
    let past =
    all_placed c.args.numbers.now c.args.offsets.now c.loop-i.places c.loop-i.i
    (omega (arith, c.loop-i-test.false, c.min-i-end.ensures)) in
    sym (c.loop-i.invariant ∙ past)
