use Rattle.tiff_value.specs.lemmas.File.Grown.{finished}
use Rattle.tiff_encode.proofs.encoder.laws.finished.Goals as goal

pub returns : goal.returns
returns c = finished
