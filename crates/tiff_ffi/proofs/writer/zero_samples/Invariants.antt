use Rattle.std.proofs.Common.{◌≡◌, ◌+◌, ◌-◌, ◌≤◌, map}
use Rattle.std.specs.Prelude.{replicate}
use Rattle.std.specs.Vec.{vec_len, vec_capacity}
use Rattle.tiff_base.specs.Types.{type_size}
use Rattle.tiff_value.specs.ColorType.{sample_number}
use Rattle.tiff_ffi.proofs.writer.zero_samples.Given as goal

abbrev pub invariant-loop : goal.invariant-loop
invariant-loop g l = record {
  zeros : map (sample_number (type_size g.S.TiffValue.value_type) g.S.Sample.bits) l.zeros.items
      ≡ replicate l.counter 0;
  many : vec_len l.zeros ≡ l.counter;
  room : vec_len l.zeros + (l.count - l.counter) ≤ vec_capacity l.zeros;
}
