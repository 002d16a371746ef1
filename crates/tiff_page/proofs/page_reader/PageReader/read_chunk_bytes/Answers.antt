use Rattle.std.proofs.Common.{arith, refl}
use Rattle.std.proofs.lemmas.Grind.{common_steps}
use Rattle.tiff_page.specs.PageView as view
use Rattle.tiff_page.specs.lemmas.Requests.{chunk_form}
use Rattle.tiff_page.proofs.Callers.{returned, chunk_planes_asked}
use Rattle.tiff_page.proofs.page_reader.PageReader.read_chunk_bytes.Goals as goal

pub returns-in_err-form_fault-clause-answer : goal.returns-in_err-form_fault-clause-answer
returns-in_err-form_fault-clause-answer g c =
    returned _ _ _ _ _ _ c.from_residual-in_err-form_fault.ensures.1
    (chunk_form _ _ (g.R.Source.contents c.args.source.now).bytes c.args.self.now.order (view.page c.args.self.now.page.now) c.args.self.now.limits.now c.args.buf.now (view.layout c.in_ok-layout.layout) c.in_err-form_fault.field-0.0 c.args.index c.in_ok-layout.ensures.answer (grind (arith, common_steps)) c.in_err-form_fault.ensures.answer)

pub returns-clause-asked : goal.returns-clause-asked
returns-clause-asked g c =
    chunk_planes_asked (view.page c.args.self.now.page.now) c.args.index (λ l. 1) 1 (view.layout c.in_ok-layout.layout)
    (g.R.Source.contents c.args.source.now) _ c.in_ok-layout.ensures.answer refl c.request_into.ensures.asked
