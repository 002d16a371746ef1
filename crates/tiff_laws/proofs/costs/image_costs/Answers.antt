use Rattle.tiff_laws.proofs.PixelCosts.{image_costs}
use Rattle.tiff_laws.proofs.costs.image_costs.Goals as goal

pub returns : goal.returns
returns c = image_costs
