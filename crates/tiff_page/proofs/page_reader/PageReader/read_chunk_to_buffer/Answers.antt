use Rattle.tiff_page.specs.Rect.{rect}
use Rattle.tiff_page.specs.PageView as view
use Rattle.tiff_page.specs.Buffers.{planes_layout}
use Rattle.tiff_page.specs.lemmas.Requests.{strided_asked}
use Rattle.tiff_page.proofs.page_reader.PageReader.read_chunk_to_buffer.Goals as goal

pub returns-clause-asked : goal.returns-clause-asked
returns-clause-asked g c =
    let p = view.page c.args.self.now.page.now in
    strided_asked p (planes_layout p (rect p c.args.index).width (rect p c.args.index).height) c.args.index c.args.stride (view.layout c.in_ok-layout.layout) (g.R.Source.contents c.args.source.now) _ c.in_ok-layout.ensures.answer c.read_samples.ensures.asked
