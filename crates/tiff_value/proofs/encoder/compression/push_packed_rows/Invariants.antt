use Rattle.std.proofs.Common.{◌≡◌, ◌%◌, length}
use Rattle.std.specs.Slice.Iter.{chunks_exact_rest, chunks_exact_size}
use Rattle.tiff_value.specs.lemmas.PackedRows.{HasRows}
use Rattle.tiff_value.proofs.encoder.compression.push_packed_rows.Given as goal

abbrev pub invariant-loop-one : goal.invariant-loop-one
invariant-loop-one l = record {
  size : chunks_exact_size l.one-iterator ≡ l.row;
  whole : length (chunks_exact_rest l.one-iterator) % l.row ≡ 0;
  packed : HasRows l.row l.bytes (chunks_exact_rest l.one-iterator) l.out.items;
}
