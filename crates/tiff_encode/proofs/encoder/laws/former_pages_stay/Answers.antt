use Rattle.tiff_encode.proofs.FormerPages.{former_pages_stay}
use Rattle.tiff_encode.proofs.encoder.laws.former_pages_stay.Goals as goal

pub returns : goal.returns
returns c = former_pages_stay
