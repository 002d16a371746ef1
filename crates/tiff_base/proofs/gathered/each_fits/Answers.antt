use Rattle.std.proofs.Common.{arith}
use Rattle.tiff_base.proofs.Lasts.{one_entry}
use Rattle.tiff_base.proofs.gathered.each_fits.Goals as goal

pub loop-i-preserved : goal.loop-i-preserved
loop-i-preserved c =
    one_entry c.args.entries.now c.loop-i.i _ _ (omega (arith, c.loop-i-test.true))
    (c.fits.ensures _ c.index-entries-i.element_fits.fits) c.loop-i.invariant
