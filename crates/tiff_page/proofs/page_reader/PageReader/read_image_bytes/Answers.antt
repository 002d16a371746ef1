use Rattle.std.proofs.Common.{arith, length}
use Rattle.std.proofs.lemmas.Grind.{common_steps}
use Rattle.tiff_page.specs.PageView as view
use Rattle.tiff_page.specs.PixelCalls.{planes_used}
use Rattle.tiff_page.specs.lemmas.Requests.{image_form}
use Rattle.tiff_page.proofs.Callers.{returned, image_planes_asked}
use Rattle.tiff_page.proofs.page_reader.PageReader.read_image_bytes.Goals as goal

pub returns-in_err-form_fault-clause-answer : goal.returns-in_err-form_fault-clause-answer
returns-in_err-form_fault-clause-answer g c =
    returned _ _ _ _ _ _ c.from_residual-in_err-form_fault.ensures.1
    (image_form _ _ (g.R.Source.contents c.args.source.now).bytes c.args.self.now.order (view.page c.args.self.now.page.now) c.args.self.now.limits.now c.args.buf.now (view.layout c.in_ok-layout.layout) c.in_err-form_fault.field-0.0 (grind (arith, common_steps)) (grind (arith, common_steps)) (grind (arith, common_steps)) (grind (arith, common_steps)) c.in_ok-layout.ensures.answer (grind (arith, common_steps)) (grind (arith, common_steps)) c.in_err-form_fault.ensures.answer)

pub returns-clause-asked : goal.returns-clause-asked
returns-clause-asked g c =
    image_planes_asked (view.page c.args.self.now.page.now) (λ l. planes_used (view.page c.args.self.now.page.now) l (length c.args.buf.now)) c.planes_used-planes.result (view.layout c.in_ok-layout.layout)
    (g.R.Source.contents c.args.source.now) _ c.in_ok-layout.ensures.answer c.planes_used-planes.ensures.value c.request_into.ensures.asked
