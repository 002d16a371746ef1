use Rattle.tiff_value.specs.lemmas.File.Kept.{kept_by_patching}
use Rattle.tiff_encode.proofs.encoder.laws.kept_by_patching.Goals as goal

pub returns : goal.returns
returns c = kept_by_patching
