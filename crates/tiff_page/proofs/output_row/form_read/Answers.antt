use Rattle.tiff_page.specs.lemmas.Planes.{form_read}
use Rattle.tiff_page.proofs.output_row.form_read.Goals as goal

pub returns : goal.returns
returns c = form_read
