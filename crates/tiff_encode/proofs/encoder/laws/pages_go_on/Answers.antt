use Rattle.tiff_encode.proofs.PagesGoOn.{pages_go_on}
use Rattle.tiff_encode.proofs.encoder.laws.pages_go_on.Goals as goal

pub returns : goal.returns
returns c = pages_go_on
