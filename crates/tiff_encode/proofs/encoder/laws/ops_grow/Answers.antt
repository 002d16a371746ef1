use Rattle.tiff_value.specs.lemmas.File.WriteOps.{ops_grow}
use Rattle.tiff_encode.proofs.encoder.laws.ops_grow.Goals as goal

pub returns : goal.returns
returns c = ops_grow
