use Rattle.tiff_ifd.specs.lemmas.Chain.{longest}
use Rattle.tiff_ifd.proofs.laws.longest_chain.Goals as goal

pub returns : goal.returns
returns c = longest
