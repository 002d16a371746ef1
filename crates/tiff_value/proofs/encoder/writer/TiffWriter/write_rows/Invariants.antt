use Rattle.std.proofs.Common.{length, ◌-◌, ◌≡◌, ◌≤◌, ◌%◌, ◌^◌, None}
use Rattle.tiff_base.specs.Types.{type_size}
use Rattle.tiff_value.specs.ColorType.{sample_number}
use Rattle.tiff_value.specs.Written.{writer_after}
use Rattle.tiff_value.proofs.Bands.{bytes_of, in_rows}
use Rattle.tiff_value.proofs.encoder.writer.TiffWriter.write_rows.Given as goal

abbrev pub invariant-loop-at : goal.invariant-loop-at
invariant-loop-at g l =
    let size = type_size g.T.TiffValue.value_type in
    record {
      within : l.at ≤ length l.samples;
      even : l.at % l.row ≡ 0;
      offset : l.initial.self.at ≤ length l.initial.self.bytes;
      same : l.self ≡ writer_after l.initial.self (bytes_of size (in_rows size (256 ^ size) l.row l.stride (sample_number size g.T.Sample.bits) l.samples) l.at);
      fresh : l.initial.self.fault ≡ None;
    }

abbrev pub decreases-loop-at : goal.decreases-loop-at
decreases-loop-at g l = length l.samples - l.at
