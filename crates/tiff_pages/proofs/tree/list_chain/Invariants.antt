use Rattle.std.proofs.Common.{◌≡◌, ◌++◌, Ok, map}
use Rattle.std.specs.Vec.Iter.{into_iter_items}
use Rattle.tiff_pages.specs.Tree.{Shows, most_values, page_item}
use Rattle.tiff_pages.proofs.tree.list_chain.Given as goal

abbrev pub invariant-loop-page : goal.invariant-loop-page
invariant-loop-page g l = record {
  can : (goal.iterator-loop-page g).can_next l.page-iterator;
  finite : (goal.iterator-loop-page g).is_finite l.page-iterator;
  shows : Shows {X = Unit {0}} (Ok tt) l.fn.decoder l.decoder;
  items : l.listing.items ++ map (page_item l.fn.decoder) (into_iter_items l.page-iterator)
      ≡ map (page_item l.fn.decoder) l.fn.pages.items;
  left : l.listing.left ≡ most_values;
  met : l.listing.met ++ map (λ p. p.place.0) (into_iter_items l.page-iterator)
      ≡ map (λ p. p.place.0) l.fn.pages.items;
}
