use Rattle.std.proofs.Common.{◌≡◌, ◌++◌, take}
use Rattle.test_surface.proofs.io.FiveBytesByteRun.show_to.Given as goal

abbrev pub invariant-loop-byte : goal.invariant-loop-byte
invariant-loop-byte g l = record {
  seen : g.S.ByteWitness.seen l.witness ≡ g.S.ByteWitness.seen l.fn.witness
      ++ take l.byte-index l.fn.self.bytes;
}
