use Rattle.tiff_encode.proofs.FormerSamples.{former_samples_stay}
use Rattle.tiff_encode.proofs.encoder.laws.former_samples_stay.Goals as goal

pub returns : goal.returns
returns c = former_samples_stay
