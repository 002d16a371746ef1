use Rattle.std.proofs.Common.{◌≡◌, ℕ, ◌+◌, ◌-◌, ◌<◌, ◌≤◌, Ok}
use Rattle.tiff_page.specs.BufferPositions.{filled_to}
use Rattle.tiff_page.specs.ChunkBands.{WritesImageRows, rows_fault}
use Rattle.tiff_page.specs.Rect.{rect}
use Rattle.tiff_page.specs.PageView as view
use Rattle.tiff_page.proofs.page_reader.PageReader.tile_row.Given as goal

-- the rows so far are in the list, filled up with zeros, and the data are enough for them
abbrev pub invariant-loop-from : goal.invariant-loop-from
invariant-loop-from g l =
    let bytes = (g.R.Source.contents l.fn.source).bytes in
    let p = view.page l.self.page.now in
    let color = l.fn.next.part.layout.color in
    let y = (rect p l.fn.next.chunk).y in
    record {
      later : g.W.RowSink.goes_on l.fn.sink l.sink;
      same : g.R.Source.contents l.source ≡ g.R.Source.contents l.fn.source;
      count : g.R.Source.failures l.source ≡ g.R.Source.failures l.fn.source;
      below : l.from ≤ l.height;
      none : 0 < l.from → rows_fault bytes l.self.order p color l.fn.next.chunk l.from ≡ Ok tt;
      written : (total : ℕ) → g.W.RowSink.whole l.fn.next.part.layout.plane_stride ≤ total
          → WritesImageRows bytes l.self.order p color l.fn.next.part.layout.row_bytes y (y
          + l.from) (filled_to total (g.W.RowSink.bytes l.fn.sink)) (filled_to total (g.W.RowSink.bytes l.sink));
    }

abbrev pub decreases-loop-from : goal.decreases-loop-from
decreases-loop-from g l = l.height - l.from
