use Rattle.std.proofs.Common.{length}
use Rattle.tiff_page.specs.PageView as view
use Rattle.tiff_page.specs.lemmas.ChunkRows.{row_of_numbers}
use Rattle.tiff_page.proofs.output_row.RowFormat.read_row.Goals as goal

pub read_finished-requires-clause-whole : goal.read_finished-requires-clause-whole
read_finished-requires-clause-whole g c =
    row_of_numbers (view.page c.args.self.now.page.now) c.args.self.now.color c.args.self.now.width
    (length c.args.out.now) c.requires.read.stored c.requires.out
