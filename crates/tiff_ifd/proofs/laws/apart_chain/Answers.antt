use Rattle.tiff_ifd.specs.lemmas.Chain.{apart_chain}
use Rattle.tiff_ifd.proofs.laws.apart_chain.Goals as goal

pub returns : goal.returns
returns c = apart_chain
