use Rattle.tiff_laws.proofs.Walking.{walk_seeks}
use Rattle.tiff_laws.proofs.pages.walk_seeks.Goals as goal

pub returns : goal.returns
returns c = walk_seeks
