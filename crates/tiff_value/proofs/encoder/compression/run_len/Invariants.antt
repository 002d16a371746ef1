use Rattle.std.proofs.Common.{◌-◌, ◌≡◌, ◌<◌, ◌≤◌, length, take, get_or, replicate}
use Rattle.tiff_value.proofs.encoder.compression.run_len.Given as goal

abbrev pub invariant-loop-count : goal.invariant-loop-count
invariant-loop-count l = record {
  some : 0 < l.count;
  most : l.count ≤ 128;
  within : l.count ≤ length l.bytes;
  same : take l.count l.bytes ≡ replicate l.count (get_or l.bytes 0 0);
}

abbrev pub decreases-loop-count : goal.decreases-loop-count
decreases-loop-count l = length l.bytes - l.count
