use Rattle.tiff_encode.specs.lemmas.Shown.Parts.{parts_show}
use Rattle.tiff_encode.proofs.encoder.laws.data.parts_show.Goals as goal

pub returns : goal.returns
returns c = parts_show
