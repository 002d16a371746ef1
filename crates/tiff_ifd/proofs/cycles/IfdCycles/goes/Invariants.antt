use Rattle.tiff_ifd.proofs.Followed.{Gone}
use Rattle.tiff_ifd.proofs.cycles.IfdCycles.goes.Given as goal

abbrev pub invariant-loop-step : goal.invariant-loop-step
invariant-loop-step l = Gone l.self l.from l.to l.offset l._step
