use Rattle.tiff_laws.proofs.PixelCosts.{strips_cost}
use Rattle.tiff_laws.proofs.costs.strips_cost.Goals as goal

pub returns : goal.returns
returns c = strips_cost
