use Rattle.tiff_encode.specs.lemmas.FormerBytes.{former_bytes_stay}
use Rattle.tiff_encode.proofs.encoder.laws.former_bytes_stay.Goals as goal

pub returns : goal.returns
returns c = former_bytes_stay
