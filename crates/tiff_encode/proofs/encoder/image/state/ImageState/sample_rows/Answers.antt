use Rattle.std.proofs.Common.{map, length, ap, sym, ◌*◌}
use Rattle.std.proofs.lemmas.List.{length-map}
use Rattle.tiff_base.specs.Types.{type_size}
use Rattle.tiff_value.specs.ColorType.{sample_number}
use Rattle.tiff_encode.proofs.Storing.{unpacked_is, unpacked_len, whole_rows}
use Rattle.tiff_encode.proofs.encoder.image.state.ImageState.sample_rows.Goals as goal

pub returns-clause-bytes : goal.returns-clause-bytes
returns-clause-bytes g c =
    let size = type_size g.T.TiffValue.value_type in
    unpacked_is c.args.self.now (map (sample_number size g.T.Sample.bits) c.args.samples.now) size (sym (ap (λ i. i.size) c.self.view_is)) c.self.inside.predictor _ _
    (sym (ap (λ i. i.predictor) c.self.view_is)) c.row_samples.ensures.count c.stored_samples.ensures.count

pub returns-clause-len : goal.returns-clause-len
returns-clause-len g c =
    let size = type_size g.T.TiffValue.value_type in
    let number = sample_number size g.T.Sample.bits in
    unpacked_len c.args.self.now (map number c.args.samples.now) size (sym (ap (λ i. i.size) c.self.view_is)) _
    (ap (λ n. n * size) (sym (length-map c.args.samples.now number)))

pub returns-clause-whole : goal.returns-clause-whole
returns-clause-whole g c =
    whole_rows c.args.self.now (length c.args.samples.now) _ c.requires.next c.requires.few c.row_samples.ensures.count
