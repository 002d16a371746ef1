use Rattle.std.proofs.Common.{◌-◌}
use Rattle.tiff_base.proofs.Search.{Halves}
use Rattle.tiff_base.proofs.place.find_place.Given as goal

abbrev pub invariant-halves : goal.invariant-halves
invariant-halves l = Halves l.number l.entries l.initial.count l.count l.low l.high

abbrev pub decreases-halves : goal.decreases-halves
decreases-halves l = l.high - l.low
