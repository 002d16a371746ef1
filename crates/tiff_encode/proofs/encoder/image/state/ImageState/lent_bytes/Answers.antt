use Rattle.std.proofs.Common.{map, ap, sym, ◌∙◌}
use Rattle.tiff_base.specs.Types.{type_size}
use Rattle.tiff_value.specs.ColorType.{sample_number}
use Rattle.tiff_encode.proofs.Storing.{lent_some}
use Rattle.tiff_encode.proofs.encoder.image.state.ImageState.lent_bytes.Goals as goal

pub returns-in-None : goal.returns-in-None
returns-in-None g c =
    let i = c.args.self.now in
    let size = type_size g.T.TiffValue.value_type in
    lent_some (λ b. b.now) i (map (sample_number size g.T.Sample.bits) c.args.samples.now) size
    (sym (ap (λ i. i.compression) c.self.view_is) ∙ c.in-Uncompressed.is)
    (sym (ap (λ i. i.predictor) c.self.view_is) ∙ c.in-None.is)
    (sym (ap (λ i. i.size) c.self.view_is)) c.as_bytes.result c.as_bytes.ensures
