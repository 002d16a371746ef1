use Rattle.std.proofs.Common.{◌≡◌, ◌%◌, take}
use Rattle.tiff_pages.specs.Adler.{base, first_sum}
use Rattle.tiff_pages.proofs.Sums.{second_sum_to}
use Rattle.tiff_pages.proofs.adler.adler_32.Given as goal

abbrev pub invariant-loop-byte : goal.invariant-loop-byte
invariant-loop-byte l = record {
  first : l.first ≡ first_sum (take l.byte-index l.bytes) % base;
  second : l.second ≡ second_sum_to l.bytes l.byte-index % base;
}
