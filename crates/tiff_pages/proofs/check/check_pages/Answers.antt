use Rattle.tiff_pages.proofs.Checked.{checks_all}
use Rattle.tiff_pages.proofs.check.check_pages.Goals as goal

pub returns : goal.returns
returns g c =
    checks_all c.args.decoder.now c.pages.new.decoder c.in_ok-listed.listed c.check_each.new.checks.items c.in_ok-listed.ensures.answer c.in_ok-listed.ensures.decoder
    c.in_ok-listed.ensures.limits c.in_ok-check_each.ensures.checks
