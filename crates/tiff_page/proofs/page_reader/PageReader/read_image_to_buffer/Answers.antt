use Rattle.std.proofs.Common.{Err}
use Rattle.std.proofs.lemmas.Result.{err_from_is_err_and}
use Rattle.tiff_page.specs.PageView as view
use Rattle.tiff_page.specs.PixelCalls.{planes_within}
use Rattle.tiff_page.proofs.Callers.{image_planes_asked}
use Rattle.tiff_page.proofs.page_reader.PageReader.read_image_to_buffer.Goals as goal

pub returns-in_err-samples-clause-asked : goal.returns-in_err-samples-clause-asked
returns-in_err-samples-clause-asked g c =
    let answered =
    err_from_is_err_and c.from_residual-in_err-samples.result c.from_residual-in_err-samples.ensures.1 in
    rw (answered.1, answered.2) (image_planes_asked {X = Unit {0}} (view.page c.args.self.now.page.now) (planes_within (view.page c.args.self.now.page.now) c.args.self.now.limits.now) c.planes_within-planes.result (view.layout c.in_ok-layout.layout)
    (g.R.Source.contents c.args.source.now) (Err c.in_err-samples.field-0.0) c.in_ok-layout.ensures.answer c.planes_within-planes.ensures.value c.in_err-samples.ensures.asked)
