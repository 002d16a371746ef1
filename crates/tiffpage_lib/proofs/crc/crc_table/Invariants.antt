use Rattle.std.proofs.Common.{◌≡◌, ℕ, ◌<◌, get_or, length}
use Rattle.tiffpage_lib.specs.Png.{crc_bits}
use Rattle.tiffpage_lib.proofs.crc.crc_table.Given as goal

abbrev pub invariant-loop-byte : goal.invariant-loop-byte
invariant-loop-byte l = record {
  len : length l.table ≡ 256;
  done : (k : ℕ) → k < l.byte → get_or l.table k 0 ≡ crc_bits 8 k;
}
