use Rattle.std.proofs.Common.{◌-◌}
use Rattle.tiff_base.specs.lemmas.Seen.{FrontSeen}
use Rattle.tiff_base.proofs.windows.OrderedWindows.wanted_of_front.Given as goal

abbrev pub invariant-windows : goal.invariant-windows
invariant-windows l = FrontSeen l.self.seen l.at

abbrev pub decreases-windows : goal.decreases-windows
decreases-windows l = l.end - l.at
