use Rattle.std.proofs.Common.{◌≡◌, ◌++◌, map, take, drop}
use Rattle.tiff_ffi.specs.List.{item_told}
use Rattle.tiff_ffi.proofs.list.fill.Given as goal

abbrev pub invariant-loop-i : goal.invariant-loop-i
invariant-loop-i l = l.out ≡ take l.i (map item_told l.items) ++ drop l.i l.initial.out
