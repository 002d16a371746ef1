use Rattle.tiff_laws.specs.lemmas.Back.{back}
use Rattle.tiff_laws.proofs.decoder.bytes_again.Goals as goal

pub returns : goal.returns
returns c = back
