use Rattle.tiff_encode.specs.lemmas.LongerChain.{chain_goes_on}
use Rattle.tiff_encode.proofs.encoder.laws.chain_goes_on.Goals as goal

pub returns : goal.returns
returns c = chain_goes_on
