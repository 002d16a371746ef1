use Rattle.std.proofs.Common.{◌≡◌, ℕ, ◌+◌, ◌-◌, ◌*◌, ◌≤◌, Ok}
use Rattle.tiff_page.specs.Pixels.{is_short}
use Rattle.tiff_page.specs.PixelFault.{chunk_fault, each_below}
use Rattle.tiff_page.specs.BufferPositions.{filled_to, Writes, IsBefore, image_byte}
use Rattle.tiff_page.specs.Rect.{chunks_of_plane}
use Rattle.tiff_page.specs.PageView as view
use Rattle.tiff_page.proofs.page_reader.PageReader.image.Given as goal

-- the chunks so far have no error, and are in the sink, filled up with zeros
abbrev pub invariant-loop-chunk : goal.invariant-loop-chunk
invariant-loop-chunk g l =
    let bytes = (g.R.Source.contents l.fn.source).bytes in
    let p = view.page l.self.page.now in
    let color = l.part.layout.color in
    let stride = l.part.layout.row_bytes in
    record {
      later : g.W.RowSink.goes_on l.fn.sink l.sink;
      same : g.R.Source.contents l.source ≡ g.R.Source.contents l.fn.source;
      count : g.R.Source.failures l.source ≡ g.R.Source.failures l.fn.source;
      below : l.chunk ≤ chunks_of_plane p;
      none : each_below (λ j. each_below (λ plane. chunk_fault p l.self.limits.now (is_short bytes l.self.order p color) color (plane * chunks_of_plane p + (0 + j))) l.part.planes) l.chunk ≡ Ok tt;
      written : (total : ℕ) → g.W.RowSink.whole (l.part.planes * l.part.layout.plane_stride) ≤ total
          → Writes (IsBefore p color stride l.part.planes l.chunk 0) (image_byte p color stride bytes l.self.order) (filled_to total (g.W.RowSink.bytes l.fn.sink)) (filled_to total (g.W.RowSink.bytes l.sink));
    }

abbrev pub decreases-loop-chunk : goal.decreases-loop-chunk
decreases-loop-chunk g l = l.chunks - l.chunk
