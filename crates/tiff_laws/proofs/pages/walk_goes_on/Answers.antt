use Rattle.tiff_laws.proofs.Walking.{walk_goes_on}
use Rattle.tiff_laws.proofs.pages.walk_goes_on.Goals as goal

pub returns : goal.returns
returns c = walk_goes_on
