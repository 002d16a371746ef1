use Rattle.tiff_value.specs.lemmas.Differences.{is_undone}
use Rattle.tiff_value.proofs.laws.is_undone.Goals as goal

pub returns : goal.returns
returns c = is_undone
