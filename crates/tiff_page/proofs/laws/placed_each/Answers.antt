use Rattle.tiff_page.specs.lemmas.PositionLaws.{placed_each}
use Rattle.tiff_page.proofs.laws.placed_each.Goals as goal

pub returns : goal.returns
returns c = placed_each
