use Rattle.std.proofs.Common.{ap}
use Rattle.tiff_pages.specs.Listed.{ListingRecord}
use Rattle.tiff_pages.specs.Pages.{state_along, times_to_end}
use Rattle.tiff_pages.proofs.Rooted.{all_found, went}
use Rattle.tiff_pages.proofs.tree.directories.Goals as goal

pub returns-clause-answer : goal.returns-clause-answer
returns-clause-answer g c =
    let w =
    went c.args.decoder.now c.pages.new.decoder (state_along c.args.decoder.now (times_to_end c.args.decoder.now)) c.in_ok-listed.ensures.decoder c.in_ok-listed.ensures.limits in
    all_found c.in_ok-listing.listing c.args.decoder.now c.pages.new.decoder c.list_chain.new.decoder c.in_ok-listed.listed c.in_ok-listing.listing c.list_levels.new.listing
    c.listing.inside.items.items w c.in_ok-listed.ensures.answer c.in_ok-listing.ensures.shows c.in_ok-listing.ensures.items c.in_ok-listing.ensures.met c.in_ok-listing.ensures.left c.in_ok-list_levels.ensures.listing
    (ap (λ (l : ListingRecord). l.items) c.listing.view_is)
