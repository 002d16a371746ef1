use Rattle.std.proofs.Common.{◌≡◌, ◌++◌, take}
use Rattle.tiff_value.proofs.encoder.octets.show_octets.Given as goal

abbrev pub invariant-loop-k : goal.invariant-loop-k
invariant-loop-k g l = record {
  seen : g.S.ByteWitness.seen l.witness ≡ g.S.ByteWitness.seen l.initial.witness
      ++ take l.k l.octets;
}
