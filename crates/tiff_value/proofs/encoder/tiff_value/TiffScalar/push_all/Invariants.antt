use Rattle.std.proofs.Common.{◌≡◌, ◌++◌, take}
use Rattle.std.specs.List.{flat_map}
use Rattle.tiff_value.proofs.encoder.tiff_value.TiffScalar.push_all.Given as goal

abbrev pub invariant-loop-item : goal.invariant-loop-item
invariant-loop-item g l =
    l.out.items ≡ l.initial.out.items
    ++ flat_map g.Self.TiffScalar.spelled (take l.item-index l.items)
