use Rattle.tiff_page.specs.lemmas.Covering.{unit_plane_written}
use Rattle.tiff_page.proofs.position.unit_plane_written.Goals as goal

pub returns : goal.returns
returns c = unit_plane_written
