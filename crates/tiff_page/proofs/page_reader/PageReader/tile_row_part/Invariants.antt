use Rattle.std.proofs.Common.{◌≡◌, ◌+◌, ◌-◌, ◌*◌, Ok}
use Rattle.tiff_base.specs.declared.error.TiffError.TheVariants.{IoError}
use Rattle.tiff_base.specs.declared.io.IoKind.TheVariants.{UnexpectedEof}
use Rattle.tiff_page.specs.PixelFault.{each_below, fail_if}
use Rattle.tiff_page.specs.BufferPositions.{Writes, IsIn, in_rect, image_byte}
use Rattle.tiff_page.specs.ChunkBands.{rows_short}
use Rattle.tiff_page.specs.Rect.{rect}
use Rattle.tiff_page.specs.PageView as view
use Rattle.tiff_page.proofs.ChunkBands.{edge}
use Rattle.tiff_page.proofs.page_reader.PageReader.tile_row_part.Given as goal

-- the rows of the chunks so far are in the sink, and their data are enough
abbrev pub invariant-loop-column : goal.invariant-loop-column
invariant-loop-column g l =
    let bytes = (g.R.Source.contents l.fn.source).bytes in
    let p = view.page l.self.page.now in
    let color = l.fn.part.layout.color in
    let stride = l.fn.part.layout.row_bytes in
    record {
      later : g.W.RowSink.goes_on l.fn.sink l.sink;
      same : g.R.Source.contents l.source ≡ g.R.Source.contents l.fn.source;
      count : g.R.Source.failures l.source ≡ g.R.Source.failures l.fn.source;
      none : each_below (λ column. fail_if (rows_short bytes l.self.order p color (l.fn.part.first
          + column) l.fn.part.to) (IoError UnexpectedEof)) l.column ≡ Ok tt;
      written : Writes (IsIn stride l.fn.part.top (l.fn.part.to - l.fn.part.from) 0 (edge p color l.column)) (in_rect (λ r b. image_byte p color stride bytes l.self.order (((rect p l.fn.part.first).y + l.fn.part.from + r) * stride + b)) stride l.fn.part.top 0) (g.W.RowSink.bytes l.fn.sink) (g.W.RowSink.bytes l.sink);
    }
