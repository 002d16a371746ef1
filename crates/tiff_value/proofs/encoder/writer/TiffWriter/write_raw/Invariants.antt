use Rattle.std.proofs.Common.{length, ◌-◌, ◌≡◌, ◌≤◌, take, None}
use Rattle.tiff_value.specs.Written.{writer_after}
use Rattle.tiff_value.proofs.encoder.writer.TiffWriter.write_raw.Given as goal

abbrev pub invariant-loop-done : goal.invariant-loop-done
invariant-loop-done g l = record {
  within : l.done ≤ length l.bytes;
  offset : l.initial.self.at ≤ length l.initial.self.bytes;
  same : l.self ≡ writer_after l.initial.self (take l.done l.bytes);
  fresh : l.initial.self.fault ≡ None;
}

abbrev pub decreases-loop-done : goal.decreases-loop-done
decreases-loop-done g l = length l.bytes - l.done
