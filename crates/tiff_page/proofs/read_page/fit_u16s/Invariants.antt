use Rattle.std.proofs.Common.{◌^◌}
use Rattle.std.specs.Vec.Iter.{into_iter_items}
use Rattle.tiff_page.proofs.Fitted.{AreDone}
use Rattle.tiff_page.proofs.read_page.fit_u16s.Given as goal

abbrev pub invariant-loop-n : goal.invariant-loop-n
invariant-loop-n l = record {
  can : goal.iterator-loop-n.can_next l.n-iterator;
  finite : goal.iterator-loop-n.is_finite l.n-iterator;
  rest : AreDone l.tag (2 ^ 16) l.fn.numbers.items (into_iter_items l.n-iterator) l.all.items;
}
