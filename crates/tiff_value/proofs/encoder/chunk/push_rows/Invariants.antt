use Rattle.std.proofs.Common.{length, ◌-◌, ◌≡◌, ◌≤◌, ◌%◌, ◌^◌, ◌++◌, map}
use Rattle.std.specs.List.{flat_map}
use Rattle.tiff_base.specs.Number.{le}
use Rattle.tiff_base.specs.Types.{type_size}
use Rattle.tiff_value.specs.ColorType.{sample_number}
use Rattle.tiff_value.proofs.Chunk.{rows_made}
use Rattle.tiff_value.proofs.encoder.chunk.push_rows.Given as goal

abbrev pub invariant-loop-at : goal.invariant-loop-at
invariant-loop-at g l = record {
  within : l.at ≤ length l.samples;
  even : l.at % l.row ≡ 0;
  made : l.out.items ≡ l.fn.out.items ++ flat_map (le (type_size g.T.TiffValue.value_type))
      (rows_made (256 ^ type_size g.T.TiffValue.value_type) l.row l.stride (map (sample_number (type_size g.T.TiffValue.value_type) g.T.Sample.bits) l.samples) l.at);
}

abbrev pub decreases-loop-at : goal.decreases-loop-at
decreases-loop-at g l = length l.samples - l.at
