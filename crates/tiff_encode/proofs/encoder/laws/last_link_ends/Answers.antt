use Rattle.tiff_encode.proofs.PagesGoOn.{last_link_ends}
use Rattle.tiff_encode.proofs.encoder.laws.last_link_ends.Goals as goal

pub returns : goal.returns
returns c = last_link_ends
