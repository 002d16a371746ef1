use Rattle.std.proofs.Common.{◌≡◌, ◌++◌, replicate}
use Rattle.std.specs.List.{flat_map}
use Rattle.tiff_encode.proofs.encoder.image.color.push_copies.Given as goal

abbrev pub invariant-loop : goal.invariant-loop
invariant-loop g l =
    l.out.items ≡ l.fn.out.items ++ flat_map g.T.TiffScalar.spelled (replicate l.counter l.item)
