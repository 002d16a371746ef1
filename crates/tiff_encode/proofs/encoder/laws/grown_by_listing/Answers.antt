use Rattle.tiff_value.specs.lemmas.File.Grown.{grown_by_listing}
use Rattle.tiff_encode.proofs.encoder.laws.grown_by_listing.Goals as goal

pub returns : goal.returns
returns c = grown_by_listing
