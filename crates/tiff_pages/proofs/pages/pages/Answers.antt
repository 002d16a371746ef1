use Rattle.tiff_pages.specs.Pages.{times_to_end}
use Rattle.tiff_pages.proofs.Kept.{end_limits, way_limits}
use Rattle.tiff_pages.proofs.pages.pages.Goals as goal

pub returns-in_err-end-clause-limits : goal.returns-in_err-end-clause-limits
returns-in_err-end-clause-limits g c =
    way_limits c.args.decoder.now c.list_pages.new.decoder.state c.in_err-end.ensures.way

pub returns-clause-limits : goal.returns-clause-limits
returns-clause-limits g c =
    end_limits c.args.decoder.now c.list_pages.new.decoder (times_to_end c.args.decoder.now) c.in_ok-end.ensures.end
