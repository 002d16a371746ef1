use Rattle.tiff_base.proofs.Extended.{last_of_each_stand}
use Rattle.tiff_base.proofs.laws.last_of_each_stand.Goals as goal

pub returns : goal.returns
returns c = last_of_each_stand
