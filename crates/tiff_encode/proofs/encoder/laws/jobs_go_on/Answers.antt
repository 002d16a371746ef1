use Rattle.tiff_encode.proofs.Running.Behind.{jobs_go_on}
use Rattle.tiff_encode.proofs.encoder.laws.jobs_go_on.Goals as goal

pub returns : goal.returns
returns c = jobs_go_on
