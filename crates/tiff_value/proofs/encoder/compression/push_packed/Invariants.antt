use Rattle.std.proofs.Common.{length, ◌-◌}
use Rattle.tiff_value.specs.lemmas.Packing.{AppendsBlocks}
use Rattle.tiff_value.proofs.encoder.compression.push_packed.Given as goal

abbrev pub invariant-loop-at : goal.invariant-loop-at
invariant-loop-at l = AppendsBlocks l.fn.out.items l.bytes l.at l.out.items

abbrev pub decreases-loop-at : goal.decreases-loop-at
decreases-loop-at l = length l.bytes - l.at
