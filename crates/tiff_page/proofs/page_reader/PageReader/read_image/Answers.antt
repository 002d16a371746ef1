use Rattle.std.proofs.Common.{refl}
use Rattle.tiff_page.specs.PageView as view
use Rattle.tiff_page.proofs.Callers.{image_planes_asked}
use Rattle.tiff_page.proofs.page_reader.PageReader.read_image.Goals as goal

pub returns-clause-asked : goal.returns-clause-asked
returns-clause-asked g c =
    image_planes_asked (view.page c.args.self.now.page.now) (λ l. 1) 1 (view.layout c.in_ok-layout.layout)
    (g.R.Source.contents c.args.source.now) _ c.in_ok-layout.ensures.answer refl c.read_samples.ensures.asked
