use Rattle.tiff_ifd.specs.lemmas.Links.{one_answer}
use Rattle.tiff_ifd.proofs.laws.one_answer.Goals as goal

pub returns : goal.returns
returns c = one_answer
