use Rattle.std.proofs.Common.{◌≡◌, ◌++◌, take}
use Rattle.tiff_value.proofs.encoder.octets.show_bytes.Given as goal

abbrev pub invariant-loop-byte : goal.invariant-loop-byte
invariant-loop-byte g l = record {
  seen : g.S.ByteWitness.seen l.witness ≡ g.S.ByteWitness.seen l.fn.witness
      ++ take l.byte-index l.bytes;
}
