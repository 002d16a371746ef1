use Rattle.tiff_value.specs.lemmas.File.WriteOps.{ops_begun}
use Rattle.tiff_encode.proofs.encoder.laws.ops_begun.Goals as goal

pub returns : goal.returns
returns c = ops_begun
