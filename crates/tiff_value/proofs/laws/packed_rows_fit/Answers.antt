use Rattle.tiff_value.specs.lemmas.PackedRows.{rows_fit}
use Rattle.tiff_value.proofs.laws.packed_rows_fit.Goals as goal

pub returns : goal.returns
returns c = rows_fit
