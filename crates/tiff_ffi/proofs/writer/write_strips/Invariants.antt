-- The strips so far are written, with zeros as samples.
use Rattle.std.proofs.Common.{◌≡◌, ◌-◌, ◌≤◌, length, map}
use Rattle.std.specs.Prelude.{replicate}
use Rattle.tiff_base.specs.Types.{type_size}
use Rattle.tiff_value.specs.ColorType.{sample_number}
use Rattle.tiff_encode.specs.Chunks.{chunks_left, parts_left}
use Rattle.tiff_encode.proofs.Data.Written.{HasWritten}
use Rattle.tiff_ffi.specs.Zeros.{zeros_of}
use Rattle.tiff_ffi.proofs.writer.write_strips.Given as goal

abbrev pub invariant-strips : goal.invariant-strips
invariant-strips g l = record {
  reference : l.image.encoder.ghost_name ≡ l.fn.image.encoder.ghost_name;
  written : HasWritten l.fn.image.state (parts_left l.fn.image.state (zeros_of l.fn.image.state))
      (length l.image.state.chunks) l.fn.image.encoder.now l.image.encoder.now l.image.state;
  within : length l.image.state.chunks ≤ chunks_left l.fn.image.state;
  zeros : map (sample_number (type_size g.C.Inner.TiffValue.value_type) g.C.Inner.Sample.bits) l.zeros.items ≡ replicate (length l.zeros.items) 0;
}

abbrev pub decreases-strips : goal.decreases-strips
decreases-strips g l = chunks_left l.fn.image.state - length l.image.state.chunks
