use Rattle.std.proofs.Common.{◌≡◌, ◌+◌, ◌-◌, ◌≤◌, length, map, take}
use Rattle.std.specs.Vec.{vec_len, vec_capacity}
use Rattle.tiff_base.specs.Types.{type_size}
use Rattle.tiff_value.specs.ColorType.{sample_number}
use Rattle.tiff_encode.specs.JobValues.{cut_to}
use Rattle.tiff_encode.proofs.encoder.job_samples.cut_numbers.Given as goal

-- the first numbers are cut, and there is room for the others
abbrev pub invariant-loop-number : goal.invariant-loop-number
invariant-loop-number g l = record {
  cut : map (sample_number (type_size g.S.TiffValue.value_type) g.S.Sample.bits) l.samples.items
      ≡ cut_to (type_size g.S.TiffValue.value_type) (take l.number-index l.numbers);
  room : vec_len l.samples + (length l.numbers - l.number-index) ≤ vec_capacity l.samples;
}
