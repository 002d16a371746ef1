use Rattle.tiff_encode.proofs.Appending.{ends_link_parent}
use Rattle.tiff_encode.proofs.encoder.laws.ends_link_parent.Goals as goal

pub returns : goal.returns
returns c = ends_link_parent
