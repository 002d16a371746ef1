use Rattle.tiff_page.specs.lemmas.PositionLaws.{one_chunk}
use Rattle.tiff_page.proofs.laws.one_chunk.Goals as goal

pub returns : goal.returns
returns c = one_chunk
