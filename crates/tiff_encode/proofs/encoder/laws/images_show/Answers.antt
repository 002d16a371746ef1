use Rattle.tiff_encode.proofs.PageTold.Page.{page_told}
use Rattle.tiff_encode.proofs.Shown.Images.{images_show_by}
use Rattle.tiff_encode.proofs.encoder.laws.images_show.Goals as goal

pub returns : goal.returns
returns c = images_show_by page_told
