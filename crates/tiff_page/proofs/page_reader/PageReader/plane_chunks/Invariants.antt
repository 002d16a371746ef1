use Rattle.std.proofs.Common.{◌≡◌, ℕ, ◌+◌, ◌*◌, ◌≤◌, Ok}
use Rattle.tiff_page.specs.Pixels.{is_short}
use Rattle.tiff_page.specs.PixelFault.{chunk_fault, each_below}
use Rattle.tiff_page.specs.BufferPositions.{filled_to, WritesPlanes}
use Rattle.tiff_page.specs.Rect.{chunks_of_plane}
use Rattle.tiff_page.specs.PageView as view
use Rattle.tiff_page.proofs.page_reader.PageReader.plane_chunks.Given as goal

-- the chunks of the planes so far have no error, and are in the sink, filled up with zeros
abbrev pub invariant-loop-plane : goal.invariant-loop-plane
invariant-loop-plane g l =
    let bytes = (g.R.Source.contents l.fn.source).bytes in
    let p = view.page l.self.page.now in
    record {
      later : g.W.RowSink.goes_on l.fn.sink l.sink;
      same : g.R.Source.contents l.source ≡ g.R.Source.contents l.fn.source;
      count : g.R.Source.failures l.source ≡ g.R.Source.failures l.fn.source;
      none : each_below (λ plane. chunk_fault p l.self.limits.now (is_short bytes l.self.order p l.next.color) l.next.color (plane * chunks_of_plane p + (0 + l.next.index))) l.plane ≡ Ok tt;
      written : (total : ℕ) → g.W.RowSink.whole (l.next.planes * (l.next.rows * l.next.first.stride)) ≤ total
          → WritesPlanes bytes l.self.order p l.next.color l.next.index l.next.first.stride l.next.rows l.next.first.top l.next.first.left l.plane (filled_to total (g.W.RowSink.bytes l.fn.sink)) (filled_to total (g.W.RowSink.bytes l.sink));
    }
