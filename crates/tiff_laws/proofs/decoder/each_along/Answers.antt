use Rattle.tiff_decode.specs.lemmas.NextState.{along}
use Rattle.tiff_laws.proofs.decoder.each_along.Goals as goal

pub returns : goal.returns
returns c = along
