use Rattle.tiff_encode.proofs.Data.Shows.{data_leaves}
use Rattle.tiff_encode.proofs.encoder.laws.data.data_leaves.Goals as goal

pub returns : goal.returns
returns c = data_leaves
