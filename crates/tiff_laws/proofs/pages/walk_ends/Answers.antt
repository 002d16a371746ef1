use Rattle.tiff_laws.proofs.Walking.{walk_ends}
use Rattle.tiff_laws.proofs.pages.walk_ends.Goals as goal

pub returns : goal.returns
returns c = walk_ends
