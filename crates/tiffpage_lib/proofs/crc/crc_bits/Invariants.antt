use Rattle.std.proofs.Common.{◌≡◌, ◌-◌}
use Rattle.tiffpage_lib.specs.Png.{crc_bits}
use Rattle.tiffpage_lib.proofs.crc.crc_bits.Given as goal

abbrev pub invariant-loop : goal.invariant-loop
invariant-loop l = crc_bits (8 - l.counter) l.left ≡ crc_bits 8 l.fn.crc
