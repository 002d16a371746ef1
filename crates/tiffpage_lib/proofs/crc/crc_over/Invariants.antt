use Rattle.std.proofs.Common.{◌≡◌, take}
use Rattle.tiffpage_lib.specs.Png.{crc_over}
use Rattle.tiffpage_lib.proofs.crc.crc_over.Given as goal

abbrev pub invariant-loop-byte : goal.invariant-loop-byte
invariant-loop-byte l = l.sum ≡ crc_over l.fn.crc (take l.byte-index l.bytes)
