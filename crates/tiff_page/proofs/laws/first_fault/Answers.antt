use Rattle.tiff_page.specs.lemmas.PositionLaws.{first_fault}
use Rattle.tiff_page.proofs.laws.first_fault.Goals as goal

pub returns : goal.returns
returns c = first_fault
