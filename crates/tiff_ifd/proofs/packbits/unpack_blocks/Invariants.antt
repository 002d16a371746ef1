use Rattle.std.proofs.Common.{◌-◌, length}
use Rattle.tiff_ifd.specs.Unpacking.{UnpacksFront}
use Rattle.tiff_ifd.proofs.packbits.unpack_blocks.Given as goal

-- the blocks so far
abbrev pub invariant-loop-used : goal.invariant-loop-used
invariant-loop-used l = UnpacksFront l.packed l.fn.buf l.used l.done l.buf

abbrev pub decreases-loop-used : goal.decreases-loop-used
decreases-loop-used l = length l.packed - l.used
