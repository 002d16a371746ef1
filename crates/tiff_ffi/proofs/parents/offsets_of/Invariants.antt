use Rattle.std.proofs.Common.{◌≡◌, take}
use Rattle.tiff_ffi.proofs.parents.offsets_of.Given as goal

-- the offsets so far
abbrev pub invariant-loop-i : goal.invariant-loop-i
invariant-loop-i l = l.offsets.items ≡ take l.i l.walk.offsets
