use Rattle.tiff_pages.proofs.Checked.{none_checked, one_checked, some_left}
use Rattle.tiff_pages.proofs.check.check_each.Goals as goal

pub loop-number-init : goal.loop-number-init
loop-number-init g c = none_checked c.args.decoder.now c.args.checks.now.items c.requires.none

pub check_page-requires : goal.check_page-requires
check_page-requires g c =
    some_left c.args.decoder.now c.loop-number.decoder c.loop-number.number c.loop-number.checks.items c.loop-number.invariant (rw c.requires.count at c.loop-number-test.true)

pub loop-number-preserved : goal.loop-number-preserved
loop-number-preserved g c =
    one_checked c.args.decoder.now c.loop-number.decoder c.check_page.new.decoder c.loop-number.number c.in_ok-check_page.field-0 c.loop-number.checks.items c.push.new.self.items
    c.loop-number.invariant c.in_ok-check_page.ensures.page c.in_ok-check_page.ensures.file c.in_ok-push.ensures.items
