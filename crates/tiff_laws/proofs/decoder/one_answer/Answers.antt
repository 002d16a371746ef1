use Rattle.tiff_laws.proofs.OneAnswer.{once}
use Rattle.tiff_laws.proofs.decoder.one_answer.Goals as goal

pub returns : goal.returns
returns c = once
