use Rattle.tiff_base.proofs.Named.{numbers_come_back}
use Rattle.tiff_base.proofs.laws.numbers_come_back.Goals as goal

pub returns : goal.returns
returns c = numbers_come_back
