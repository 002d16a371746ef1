use Rattle.tiff_value.specs.lemmas.File.Header.{header_stands}
use Rattle.tiff_encode.proofs.encoder.laws.header_stands.Goals as goal

pub returns : goal.returns
returns c = header_stands
