use Rattle.std.proofs.Common.{ap, sym, ◌∙◌, fold}
use Rattle.std.specs.Vec.Iter.{into_iter_items}
use Rattle.tiff_pages.specs.Tree.{expand}
use Rattle.tiff_pages.proofs.Stepped.{both_show, item_expanded}
use Rattle.tiff_pages.proofs.tree.expand_all.Goals as goal

pub loop-item-preserved : goal.loop-item-preserved
loop-item-preserved g c = record {
  can = tt;
  finite = tt;
  shows =
      both_show c.in_ok-expand.field-0 c.args.decoder.now c.loop-item.decoder c.expand.new.decoder c.loop-item.invariant.shows c.in_ok-expand.ensures.shows;
  rest =
      item_expanded c.args.decoder.now c.loop-item.decoder c.args.depth c.loop-item.listing c.expand.new.listing c.in-Some.item (into_iter_items c.next.new.self) c.loop-item.invariant.shows
      c.in_ok-expand.ensures.listing
      ∙ ap (fold (expand c.args.decoder.now c.args.depth) c.loop-item.listing) (sym c.in-Some.ensures.steps.0)
      ∙ c.loop-item.invariant.rest;
}
