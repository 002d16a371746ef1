use Rattle.tiff_value.specs.lemmas.File.Agree.{models_agree}
use Rattle.tiff_encode.proofs.encoder.laws.models_agree.Goals as goal

pub returns : goal.returns
returns c = models_agree
