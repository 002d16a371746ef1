use Rattle.tiff_ifd.specs.lemmas.OneNumber.{one_of_numbers}
use Rattle.tiff_ifd.proofs.laws.one_of_numbers.Goals as goal

pub returns : goal.returns
returns c = one_of_numbers
