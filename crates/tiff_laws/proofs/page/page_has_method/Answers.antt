use Rattle.tiff_laws.proofs.Sides.{page_has_method}
use Rattle.tiff_laws.proofs.page.page_has_method.Goals as goal

pub returns : goal.returns
returns c = page_has_method
