use Rattle.tiff_ifd.proofs.Passed.{link_of_directory}
use Rattle.tiff_ifd.proofs.laws.link_of_directory.Goals as goal

pub returns : goal.returns
returns c = link_of_directory
