use Rattle.std.proofs.Common.{◌≡◌, map, take, flat_map}
use Rattle.tiff_base.specs.Number.{le}
use Rattle.tiff_decode.proofs.buffer.bytes_of.Given as goal

-- the bytes of the samples so far
abbrev pub invariant-loop-sample : goal.invariant-loop-sample
invariant-loop-sample g l =
    l.bytes.items ≡ flat_map (le g.row.N) (map g.T.Number.bits (take l.sample-index l.samples))
