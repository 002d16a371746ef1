use Rattle.tiff_page.specs.PageView as view
use Rattle.tiff_rewrite.proofs.RowsBack.{RowsTo}
use Rattle.tiff_rewrite.proofs.rewrite.ChunkForm.put_rows.Given as goal

-- the rows before the next are rewritten
abbrev pub invariant-loop-row : goal.invariant-loop-row
invariant-loop-row l =
    RowsTo l.self.order (view.page l.self.page.now) l.self.color l.width l.len l.read l.step l.samples l.fn.stored l.row l.stored
