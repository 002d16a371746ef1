use Rattle.tiff_value.specs.lemmas.File.WriteOps.{ops_join}
use Rattle.tiff_encode.proofs.encoder.laws.ops_join.Goals as goal

pub returns : goal.returns
returns c = ops_join
