use Rattle.std.proofs.Common.{ap, ◌∙◌}
use Rattle.tiff_pages.specs.Listed.{ListingRecord}
use Rattle.tiff_pages.proofs.Stepped.{both_show, levelled}
use Rattle.tiff_pages.proofs.tree.list_levels.Goals as goal

pub loop-depth-preserved : goal.loop-depth-preserved
loop-depth-preserved g c = record {
  shows =
      both_show c.in_ok-expand_all.field-0 c.args.decoder.now c.loop-depth.decoder c.expand_all.new.decoder c.loop-depth.invariant.shows c.in_ok-expand_all.ensures.shows;
  listing =
      levelled c.args.decoder.now c.loop-depth.decoder c.args.listing.now c.loop-depth.listing _ c.expand_all.new.listing c.loop-depth.depth c.replace-items.result.items
      c.loop-depth.invariant.shows c.loop-depth.invariant.listing
      (ap (λ v. v.items) c.replace-items.ensures.after ∙ c.new.ensures.items)
      (ap (λ (l : ListingRecord). l.met) c.listing.view_is)
      (ap (λ (l : ListingRecord). l.left) c.listing.view_is)
      (ap (λ v. v.items) c.replace-items.ensures.value
      ∙ ap (λ (l : ListingRecord). l.items) c.listing.view_is)
      c.in_ok-expand_all.ensures.listing;
}
