use Rattle.tiff_ifd.specs.lemmas.Links.{some_answer}
use Rattle.tiff_ifd.proofs.laws.some_answer.Goals as goal

pub returns : goal.returns
returns c = some_answer
