use Rattle.tiff_ifd.specs.lemmas.Chain.{the_chain}
use Rattle.tiff_ifd.proofs.laws.the_chain.Goals as goal

pub returns : goal.returns
returns c = the_chain
