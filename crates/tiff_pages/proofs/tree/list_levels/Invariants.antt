use Rattle.std.proofs.Common.{◌≡◌, Ok}
use Rattle.tiff_pages.specs.Tree.{Shows, below}
use Rattle.tiff_pages.proofs.tree.list_levels.Given as goal

abbrev pub invariant-loop-depth : goal.invariant-loop-depth
invariant-loop-depth g l = record {
  shows : Shows {X = Unit {0}} (Ok tt) l.fn.decoder l.decoder;
  listing : l.listing ≡ below l.fn.decoder l.depth l.fn.listing;
}
