use Rattle.tiff_page.specs.lemmas.Covering.{chunk_written}
use Rattle.tiff_page.proofs.position.chunk_written.Goals as goal

pub returns : goal.returns
returns c = chunk_written
