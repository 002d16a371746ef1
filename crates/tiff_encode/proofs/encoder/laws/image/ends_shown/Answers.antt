use Rattle.tiff_encode.proofs.PageTold.Page.{page_told}
use Rattle.tiff_encode.proofs.Shown.Images.{images_show_by}
use Rattle.tiff_encode.proofs.Open.Ends.{ends_shown_by}
use Rattle.tiff_encode.proofs.encoder.laws.image.ends_shown.Goals as goal

pub returns : goal.returns
returns c = ends_shown_by (images_show_by page_told)
