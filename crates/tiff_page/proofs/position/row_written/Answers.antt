use Rattle.tiff_page.specs.lemmas.Rects.{row_put}
use Rattle.tiff_page.proofs.position.row_written.Goals as goal

pub returns : goal.returns
returns c = row_put
