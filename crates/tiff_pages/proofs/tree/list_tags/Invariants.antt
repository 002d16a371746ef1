use Rattle.std.proofs.Common.{◌≡◌, Ok, take}
use Rattle.std.specs.List.{fold}
use Rattle.tiff_pages.specs.Tree.{Shows, list_tag}
use Rattle.tiff_pages.proofs.tree.list_tags.Given as goal

abbrev pub invariant-loop-pointer : goal.invariant-loop-pointer
invariant-loop-pointer g l = record {
  shows : Shows {X = Unit {0}} (Ok tt) l.fn.decoder l.decoder;
  listing : l.listing ≡ fold (list_tag l.fn.decoder l.directory l.place l.depth) l.fn.listing
      (take l.pointer-index l.pointer-items);
}
