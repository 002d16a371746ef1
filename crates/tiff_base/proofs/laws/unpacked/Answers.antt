use Rattle.tiff_base.specs.lemmas.Blocks.{unpacked}
use Rattle.tiff_base.proofs.laws.unpacked.Goals as goal

pub returns : goal.returns
returns c = unpacked
