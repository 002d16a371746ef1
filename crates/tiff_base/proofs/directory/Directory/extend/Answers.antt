use Rattle.std.proofs.Common.{rules}
use Rattle.std.proofs.iter.Next as it
use Rattle.tiff_base.proofs.Extended.{one_more}
use Rattle.tiff_base.proofs.directory.Directory.extend.Goals as goal

pub loop-item-preserved : goal.loop-item-preserved
loop-item-preserved g c =
    let before = c.loop-item.invariant in
    let item = c.in-Some.item in
    it.again before item c.in-Some.is (c.next.ensures.steps, c.next.ensures.goes)
    (one_more c.args.self.now c.loop-item.self c.insert.new.self before.seen item before.holds (search rules))
