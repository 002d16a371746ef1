use Rattle.tiff_encode.proofs.PageTold.Page.{page_told}
use Rattle.tiff_encode.proofs.encoder.laws.page_told.Goals as goal

pub returns : goal.returns
returns c = page_told
