use Rattle.tiff_encode.proofs.Runs.{one_step}
use Rattle.tiff_encode.proofs.encoder.laws.one_step.Goals as goal

pub returns : goal.returns
returns c = one_step
