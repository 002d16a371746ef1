use Rattle.tiff_value.specs.lemmas.File.WriteOps.{ops_append}
use Rattle.tiff_encode.proofs.encoder.laws.ops_append.Goals as goal

pub returns : goal.returns
returns c = ops_append
