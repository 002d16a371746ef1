use Rattle.tiff_encode.proofs.Appending.{image_calls_append}
use Rattle.tiff_encode.proofs.encoder.laws.image_calls_append.Goals as goal

pub returns : goal.returns
returns c = image_calls_append
