use Rattle.tiff_laws.proofs.Walking.{walk_opens}
use Rattle.tiff_laws.proofs.pages.walk_opens.Goals as goal

pub returns : goal.returns
returns c = walk_opens
