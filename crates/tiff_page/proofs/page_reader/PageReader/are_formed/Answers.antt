use Rattle.std.proofs.Common.{arith}
use Rattle.tiff_page.proofs.page_reader.PageReader.are_formed.Goals as goal

pub returns : goal.returns
returns c =
    λ t column l. c.loop-column.invariant column (omega (arith, l, c.loop-column-test.false, c.chunks_across-column-end.ensures))
