use Rattle.std.proofs.Common.{refl}
use Rattle.std.proofs.lemmas.Result.{err_from_is_err_and}
use Rattle.tiff_page.specs.PixelCalls.{planes_within}
use Rattle.tiff_page.specs.Reach.{ImageReadable}
use Rattle.tiff_decode.specs.Machine.{Decoding, source_of, from_fields}
use Rattle.tiff_decode.specs.Outcome.{read_image_to_buffer}
use Rattle.tiff_decode.proofs.Asked.{asked_of}
use Rattle.tiff_decode.proofs.Refusing.{refused_here}
use Rattle.tiff_decode.proofs.decoder.Decoder.read_image_to_buffer.Goals as goal

pub returns-in_err-layout-clause-asked : goal.returns-in_err-layout-clause-asked
returns-in_err-layout-clause-asked g c =
    let s = c.self.inside in
    let d = from_fields g.R.Source.contents g.R.Source.failures s.tags s.first s.standing.pointer s.standing.more s.page s.offset in
    let P : Decoding → Type 0 =
    λ x. ImageReadable (source_of x) x.state.page (λ l. planes_within x.state.page x.state.limits l) in
    let answered = err_from_is_err_and c.from_residual.result c.from_residual.ensures.1 in
    rw (answered.1, answered.2) (asked_of P d _ c.in_err-layout.field-0.0 c.self.view_is c.in_err-layout.ensures.asked)

pub returns-in_err-layout-clause-follows : goal.returns-in_err-layout-clause-follows
unfolding read_image_to_buffer
returns-in_err-layout-clause-follows g c =
    refused_here _ _ c.in_err-layout.field-0.0 read_image_to_buffer _ _ _ (g.R.Source.contents c.read_image_to_buffer.new.source) (g.R.Source.failures c.read_image_to_buffer.new.source)
    c.from_residual.ensures.1 c.self.view_is refl c.in_err-layout.ensures.kept.contents c.in_err-layout.ensures.kept.failures c.in_err-layout.ensures.kept.swallowed c.in_err-layout.ensures.answer
