use Rattle.tiff_encode.proofs.Appending.{directory_calls_append}
use Rattle.tiff_encode.proofs.encoder.laws.directory_calls_append.Goals as goal

pub returns : goal.returns
returns c = directory_calls_append
