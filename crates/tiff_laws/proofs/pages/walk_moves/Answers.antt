use Rattle.tiff_laws.proofs.Walking.{walk_moves}
use Rattle.tiff_laws.proofs.pages.walk_moves.Goals as goal

pub returns : goal.returns
returns c = walk_moves
