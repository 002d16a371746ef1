use Rattle.tiff_encode.proofs.Runs.{one_stored}
use Rattle.tiff_encode.proofs.encoder.laws.one_stored.Goals as goal

pub returns : goal.returns
returns c = one_stored
