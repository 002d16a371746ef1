use Rattle.std.proofs.Common.{◌≡◌, ℕ, ◌+◌, ◌-◌, ◌*◌, ◌≤◌, length, drop}
use Rattle.tiff_page.specs.Layout.{row_bytes}
use Rattle.tiff_page.specs.Pixels.{chunk_data}
use Rattle.tiff_page.specs.BufferPositions.{filled_to, Writes, IsIn, in_rect, chunk_byte}
use Rattle.tiff_page.specs.Rect.{rect}
use Rattle.tiff_page.specs.ChunkData.{bytes_left}
use Rattle.tiff_page.specs.PageView as view
use Rattle.tiff_page.specs.lemmas.Requests.{StandsAt}
use Rattle.tiff_page.proofs.chunk_rows.ChunkReader.rows.Given as goal

-- the rows so far are in the list, filled up with zeros, and the data contain them; the next row is
-- at the position
abbrev pub invariant-loop-row : goal.invariant-loop-row
invariant-loop-row g l =
    let bytes = (g.R.Source.contents l.fn.source).bytes in
    let p = view.page l.self.format.page.now in
    let stored = chunk_data bytes l.self.format.order p l.self.index in
    let destination = l.destination in
    record {
      later : g.W.RowSink.goes_on l.fn.sink l.sink;
      within : l.row ≤ (rect p l.self.index).height;
      same : g.R.Source.contents l.source ≡ g.R.Source.contents l.fn.source;
      count : g.R.Source.failures l.source ≡ g.R.Source.failures l.fn.source;
      stands : StandsAt p l.self.index (l.row * destination.stride) l.cursor;
      position : bytes_left bytes l.cursor ≡ drop (l.row * destination.stride) stored;
      enough : l.row * destination.stride ≤ length stored;
      written : (total : ℕ) → g.W.RowSink.whole ((destination.top
          + (rect p l.self.index).height) * destination.stride) ≤ total
          → Writes (IsIn destination.stride destination.top l.row destination.left (row_bytes p l.self.format.color (rect p l.self.index).width)) (in_rect (chunk_byte bytes l.self.format.order p l.self.format.color l.self.index) destination.stride destination.top destination.left) (filled_to total (g.W.RowSink.bytes l.fn.sink)) (filled_to total (g.W.RowSink.bytes l.sink));
    }

abbrev pub decreases-loop-row : goal.decreases-loop-row
decreases-loop-row g l = l.rows - l.row
