use Rattle.std.proofs.Common.{◌≡◌, ◌++◌, take, drop, map}
use Rattle.tiff_decode.specs.ReplyView.{bits_64}
use Rattle.tiff_ffi.proofs.values.fill_bits.Given as goal

abbrev pub invariant-loop-i : goal.invariant-loop-i
invariant-loop-i l = l.out ≡ take l.i (map bits_64 l.items) ++ drop l.i l.initial.out
