use Rattle.std.proofs.Common.{◌≡◌, ◌+◌, ◌-◌, ◌*◌, ◌<◌, ◌≤◌, length, drop}
use Rattle.tiff_page.specs.Layout.{row_bytes}
use Rattle.tiff_page.specs.Pixels.{chunk_data, stored_row_bytes, needed_of_row}
use Rattle.tiff_page.specs.BufferPositions.{Writes, IsIn, in_rect, chunk_byte}
use Rattle.tiff_page.specs.Rect.{rect}
use Rattle.tiff_page.specs.ChunkData.{bytes_left}
use Rattle.tiff_page.specs.PageView as view
use Rattle.tiff_page.specs.lemmas.Requests.{StandsAt}
use Rattle.tiff_page.proofs.chunk_rows.ChunkReader.separate_rows.Given as goal

-- the rows so far are in the buffer, and the data contain them; the next row is at the position
abbrev pub invariant-loop-row : goal.invariant-loop-row
invariant-loop-row g l =
    let bytes = (g.R.Source.contents l.fn.source).bytes in
    let p = view.page l.self.format.page.now in
    let stored = chunk_data bytes l.self.format.order p l.self.index in
    let len = row_bytes p l.self.format.color (rect p l.self.index).width in
    record {
      later : g.W.RowSink.goes_on l.fn.sink l.sink;
      same : g.R.Source.contents l.source ≡ g.R.Source.contents l.fn.source;
      count : g.R.Source.failures l.source ≡ g.R.Source.failures l.fn.source;
      stands : StandsAt p l.self.index (l.row * stored_row_bytes p) l.cursor;
      position : l.row < (rect p l.self.index).height
          → bytes_left bytes l.cursor ≡ drop (l.row * stored_row_bytes p) stored;
      enough : l.fn.band.from < l.row
          → (l.row - 1) * stored_row_bytes p + needed_of_row p l.self.format.color len
          ≤ length stored;
      written : Writes (IsIn l.fn.band.destination.stride l.fn.band.destination.top (l.row - l.fn.band.from) l.fn.band.destination.left len) (in_rect (λ r b. chunk_byte bytes l.self.format.order p l.self.format.color l.self.index (l.fn.band.from + r) b) l.fn.band.destination.stride l.fn.band.destination.top l.fn.band.destination.left) (g.W.RowSink.bytes l.fn.sink) (g.W.RowSink.bytes l.sink);
    }
