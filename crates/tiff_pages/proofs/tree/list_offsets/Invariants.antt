use Rattle.std.proofs.Common.{◌≡◌, Ok, take}
use Rattle.std.specs.List.{fold}
use Rattle.tiff_pages.specs.Tree.{Shows, list_offset}
use Rattle.tiff_pages.proofs.tree.list_offsets.Given as goal

abbrev pub invariant-loop-offset : goal.invariant-loop-offset
invariant-loop-offset g l = record {
  shows : Shows {X = Unit {0}} (Ok tt) l.fn.decoder l.decoder;
  listing : l.listing ≡ fold (list_offset l.fn.decoder l.by l.depth) l.fn.listing
      (take l.offset-index l.offsets);
}
