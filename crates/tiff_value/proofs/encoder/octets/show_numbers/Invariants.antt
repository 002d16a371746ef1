use Rattle.std.proofs.Common.{◌≡◌, ◌++◌, take}
use Rattle.std.specs.List.{flat_map}
use Rattle.tiff_value.proofs.encoder.octets.show_numbers.Given as goal

abbrev pub invariant-loop-k : goal.invariant-loop-k
invariant-loop-k g l = record {
  seen : g.S.ByteWitness.seen l.witness ≡ g.S.ByteWitness.seen l.initial.witness
      ++ flat_map g.T.LittleEndianBytes.written (take l.k l.numbers);
}
