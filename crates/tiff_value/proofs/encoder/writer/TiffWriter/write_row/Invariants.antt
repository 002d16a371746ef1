use Rattle.std.proofs.Common.{length, map, ◌-◌, ◌≡◌, ◌≤◌, ◌^◌, None}
use Rattle.tiff_base.specs.Types.{type_size}
use Rattle.tiff_base.specs.declared.tags.Predictor.TheVariants.{Horizontal}
use Rattle.tiff_value.specs.ColorType.{sample_number}
use Rattle.tiff_value.specs.Differences.{stored_difference}
use Rattle.tiff_value.specs.Written.{writer_after}
use Rattle.tiff_value.proofs.Bands.{bytes_of}
use Rattle.tiff_value.proofs.encoder.writer.TiffWriter.write_row.Given as goal

abbrev pub invariant-loop-at : goal.invariant-loop-at
invariant-loop-at g l =
    let size = type_size g.T.TiffValue.value_type in
    let numbers = map (sample_number size g.T.Sample.bits) l.row in
    record {
      within : l.at ≤ length l.row;
      offset : l.initial.self.at ≤ length l.initial.self.bytes;
      same : l.self ≡ writer_after l.initial.self (bytes_of size (stored_difference Horizontal (256 ^ size) (length numbers) l.stride numbers) l.at);
      fresh : l.initial.self.fault ≡ None;
    }

abbrev pub decreases-loop-at : goal.decreases-loop-at
decreases-loop-at g l = length l.row - l.at
