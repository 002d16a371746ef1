use Rattle.tiff_value.specs.lemmas.File.FirstPage.{first_told}
use Rattle.tiff_encode.proofs.encoder.laws.first_told.Goals as goal

pub returns : goal.returns
returns c = first_told
