use Rattle.tiff_ifd.specs.lemmas.Chain.{one_chain}
use Rattle.tiff_ifd.proofs.laws.one_chain.Goals as goal

pub returns : goal.returns
returns c = one_chain
