use Rattle.tiff_pages.proofs.Checked.{ChecksAlong}
use Rattle.tiff_pages.proofs.check.check_each.Given as goal

abbrev pub invariant-loop-number : goal.invariant-loop-number
invariant-loop-number g l = ChecksAlong l.fn.decoder l.decoder l.number l.checks.items
