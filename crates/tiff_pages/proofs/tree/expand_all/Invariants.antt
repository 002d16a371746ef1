use Rattle.std.proofs.Common.{◌≡◌, Ok}
use Rattle.std.specs.List.{fold}
use Rattle.std.specs.Vec.Iter.{into_iter_items}
use Rattle.tiff_pages.specs.Tree.{Shows, expand}
use Rattle.tiff_pages.proofs.tree.expand_all.Given as goal

abbrev pub invariant-loop-item : goal.invariant-loop-item
invariant-loop-item g l = record {
  can : (goal.iterator-loop-item g).can_next l.item-iterator;
  finite : (goal.iterator-loop-item g).is_finite l.item-iterator;
  shows : Shows {X = Unit {0}} (Ok tt) l.fn.decoder l.decoder;
  rest : fold (expand l.fn.decoder l.depth) l.listing (into_iter_items l.item-iterator)
      ≡ fold (expand l.fn.decoder l.depth) l.fn.listing l.fn.items.items;
}
