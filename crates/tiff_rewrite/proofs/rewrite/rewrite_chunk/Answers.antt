use Rattle.std.proofs.Common.{subst}
use Rattle.tiff_base.specs.declared.color.ColorType.{ColorType}
use Rattle.tiff_page.specs.PageView as view
use Rattle.tiff_rewrite.specs.Rewrite.{ChunkRewritten}
use Rattle.tiff_rewrite.specs.lemmas.ChunkPut.{tested_color, tested_len, tested_read}
use Rattle.tiff_rewrite.proofs.rewrite.rewrite_chunk.Goals as goal

pub put_rows-requires-clause-read : goal.put_rows-requires-clause-read
put_rows-requires-clause-read c =
    tested_read (view.page c.args.reader.now.page.now) c.args.reader.now.limits.now
    (view.layout c.in_ok-layout.layout) c.args.index
    c.chunk_data_dimensions-width.result.0 c.chunk_data_dimensions-width.result.1 _ c.args.reader.now.page.now.sampled c.in_ok-layout.ensures.laid c.in_ok-rewrite_fault.ensures

pub put_rows-requires-clause-samples : goal.put_rows-requires-clause-samples
put_rows-requires-clause-samples c =
    tested_len (view.page c.args.reader.now.page.now) (view.layout c.in_ok-layout.layout) c.args.index
    _ c.chunk_data_dimensions-width.result c.chunk_data_dimensions-width.ensures.size c.in_ok-layout.ensures.laid c.if-samples-layout.false

pub returns-clause-rewritten : goal.returns-clause-rewritten
returns-clause-rewritten c = λ color e.
    subst (λ (x : ColorType). ChunkRewritten c.args.reader.now.order (view.page c.args.reader.now.page.now) x c.args.index c.args.samples.now c.args.stored.now c.put_rows.new.stored)
    (tested_color (view.page c.args.reader.now.page.now) (view.layout c.in_ok-layout.layout) color c.chunk_data_dimensions-width.result.0 c.chunk_data_dimensions-width.result.1 c.in_ok-layout.ensures.laid e)
    c.put_rows.ensures
