use Rattle.tiff_encode.proofs.Runs.{offsets_agree}
use Rattle.tiff_encode.proofs.encoder.laws.offsets_agree.Goals as goal

pub returns : goal.returns
returns c = offsets_agree
