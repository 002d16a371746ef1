use Rattle.tiff_value.specs.lemmas.Data.{data_is_whole}
use Rattle.tiff_value.proofs.laws.data_is_whole.Goals as goal

pub returns : goal.returns
returns c = data_is_whole
