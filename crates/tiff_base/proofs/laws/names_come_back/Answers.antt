use Rattle.tiff_base.proofs.Named.{names_come_back}
use Rattle.tiff_base.proofs.laws.names_come_back.Goals as goal

pub returns : goal.returns
returns c = names_come_back
