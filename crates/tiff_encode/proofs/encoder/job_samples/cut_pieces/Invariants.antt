use Rattle.std.proofs.Common.{◌≡◌, ◌+◌, ◌-◌, ◌≤◌, length, map}
use Rattle.std.specs.Vec.{vec_len, vec_capacity}
use Rattle.tiff_base.specs.Types.{type_size}
use Rattle.tiff_base.specs.declared.tags.ByteOrder.TheVariants.{LittleEndian}
use Rattle.tiff_value.specs.ColorType.{sample_number}
use Rattle.tiff_page.specs.Pixels.{tabulate, row_number}
use Rattle.tiff_encode.specs.JobValues.{cut_to}
use Rattle.tiff_encode.proofs.encoder.job_samples.cut_pieces.Given as goal

-- the first numbers are cut, and there is room for the others
abbrev pub invariant-loop-piece : goal.invariant-loop-piece
invariant-loop-piece g l = record {
  cut : map (sample_number (type_size g.S.TiffValue.value_type) g.S.Sample.bits) l.samples.items
      ≡ cut_to (type_size g.S.TiffValue.value_type) (tabulate l.piece-index (row_number LittleEndian g.row.N l.bytes));
  room : vec_len l.samples + (length l.pieces - l.piece-index) ≤ vec_capacity l.samples;
}
