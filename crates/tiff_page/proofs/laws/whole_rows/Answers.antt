use Rattle.tiff_page.specs.lemmas.Planes.{whole_rows}
use Rattle.tiff_page.proofs.laws.whole_rows.Goals as goal

pub returns : goal.returns
returns c = whole_rows
