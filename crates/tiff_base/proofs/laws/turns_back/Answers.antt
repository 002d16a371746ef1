use Rattle.tiff_base.proofs.ByteOrders.{turns_back}
use Rattle.tiff_base.proofs.laws.turns_back.Goals as goal

pub returns : goal.returns
returns c = turns_back
