use Rattle.tiff_value.specs.lemmas.File.WriteOps.{ops_torn}
use Rattle.tiff_encode.proofs.encoder.laws.ops_torn.Goals as goal

pub returns : goal.returns
returns c = ops_torn
