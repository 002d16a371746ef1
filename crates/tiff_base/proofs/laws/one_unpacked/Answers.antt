use Rattle.tiff_base.specs.lemmas.Blocks.{one_unpacked}
use Rattle.tiff_base.proofs.laws.one_unpacked.Goals as goal

pub returns : goal.returns
returns c = one_unpacked
