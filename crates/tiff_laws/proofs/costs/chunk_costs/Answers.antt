use Rattle.tiff_laws.proofs.PixelCosts.{chunk_costs}
use Rattle.tiff_laws.proofs.costs.chunk_costs.Goals as goal

pub returns : goal.returns
returns c = chunk_costs
