use Rattle.std.proofs.Common.{◌<◌, length}
use Rattle.std.proofs.lemmas.Result.{err_from_is_err_and}
use Rattle.tiff_page.specs.ChunkData.{bytes_left}
use Rattle.tiff_page.specs.PageView as view
use Rattle.tiff_page.specs.lemmas.ChunkRows.{whole_cause}
use Rattle.tiff_page.proofs.output_row.RowFormat.read_whole_row.Goals as goal

pub returns-in_err-read_grown-clause-row : goal.returns-in_err-read_grown-clause-row
returns-in_err-read_grown-clause-row g c =
    let answered = err_from_is_err_and c.from_residual.result c.from_residual.ensures.1 in
    rw (answered.1, answered.2) (whole_cause (view.page c.args.self.now.page.now) c.args.self.now.color (g.R.Source.failures c.args.source.now < g.R.Source.failures c.read_grown.new.source) (bytes_left (g.R.Source.contents c.args.source.now).bytes c.args.cursor.now) (length c.args.out.now) c.in_err-read_grown.field-0.0
    c.requires.whole (rw c.stored_row_bytes.ensures.value at c.in_err-read_grown.ensures.taken))
