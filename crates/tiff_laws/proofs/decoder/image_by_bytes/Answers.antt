use Rattle.tiff_laws.proofs.Samples.{image_by}
use Rattle.tiff_laws.proofs.decoder.image_by_bytes.Goals as goal

pub returns : goal.returns
returns c = image_by c.some_bytes.ensures
