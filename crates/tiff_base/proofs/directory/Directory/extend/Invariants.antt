use Rattle.std.proofs.Common.{◌≡◌}
use Rattle.std.proofs.iter.Next as it
use Rattle.std.specs.Iterator.{EndsFrom, items_left}
use Rattle.tiff_base.specs.Directory.{with_entries}
use Rattle.tiff_base.proofs.directory.Directory.extend.Given as goal

abbrev pub invariant-loop-item : goal.invariant-loop-item
invariant-loop-item g l =
    it.Ran g.U.IntoIter.Iterator.can_next (EndsFrom g.U.IntoIter.Iterator.remaining)
    (items_left g.U.IntoIter.Iterator.remaining)
    g.U.IntoIter.Iterator.next_gives (λ items. l.self
    ≡ with_entries l.fn.self items) l.initial.rest l.rest

abbrev pub decreases-loop-item : goal.decreases-loop-item
decreases-loop-item g l = items_left g.U.IntoIter.Iterator.remaining l.rest
