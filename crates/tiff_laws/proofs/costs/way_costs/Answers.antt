use Rattle.tiff_laws.proofs.OnTheWay.{way_costs}
use Rattle.tiff_laws.proofs.costs.way_costs.Goals as goal

pub returns : goal.returns
returns c = way_costs
