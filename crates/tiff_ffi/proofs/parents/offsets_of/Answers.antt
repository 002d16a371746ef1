use Rattle.std.proofs.Common.{sym}
use Rattle.tiff_ffi.proofs.ParentsRan.{one_further}
use Rattle.tiff_ffi.proofs.parents.offsets_of.Goals as goal

pub loop-i-preserved : goal.loop-i-preserved
loop-i-preserved c =
    one_further c.args.walk.now.offsets c.loop-i.i c.in-Some.offset c.loop-i.offsets.items c.push.new.self.items c.loop-i.invariant (sym c.in-Some.ensures) c.in_ok-push.ensures.items
