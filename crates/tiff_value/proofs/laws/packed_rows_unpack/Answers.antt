use Rattle.tiff_value.specs.lemmas.PackedRows.{rows_unpack}
use Rattle.tiff_value.proofs.laws.packed_rows_unpack.Goals as goal

pub returns : goal.returns
returns c = rows_unpack
