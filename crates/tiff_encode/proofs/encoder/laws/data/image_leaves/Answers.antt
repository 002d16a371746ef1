use Rattle.tiff_encode.specs.lemmas.Shown.Parts.{parts_show}
use Rattle.tiff_encode.proofs.Data.Image.{image_leaves_by}
use Rattle.tiff_encode.proofs.encoder.laws.data.image_leaves.Goals as goal

pub returns : goal.returns
returns c = image_leaves_by parts_show
