use Rattle.tiff_value.specs.lemmas.Packing.{unpacks}
use Rattle.tiff_value.proofs.laws.packed_unpacks.Goals as goal

pub returns : goal.returns
returns c = unpacks
