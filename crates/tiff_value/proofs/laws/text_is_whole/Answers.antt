use Rattle.tiff_value.specs.lemmas.Data.{text_is_whole}
use Rattle.tiff_value.proofs.laws.text_is_whole.Goals as goal

pub returns : goal.returns
returns c = text_is_whole
