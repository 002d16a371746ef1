use Rattle.tiff_value.specs.lemmas.File.WriteOps.{ops_stand}
use Rattle.tiff_encode.proofs.encoder.laws.ops_stand.Goals as goal

pub returns : goal.returns
returns c = ops_stand
