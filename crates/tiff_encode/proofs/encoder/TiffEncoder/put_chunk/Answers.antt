use Rattle.std.proofs.Common.{length, map, refl, ap, sym, ◌∙◌}
use Rattle.std.proofs.lemmas.List.{length-map}
use Rattle.tiff_base.specs.Types.{type_size}
use Rattle.tiff_value.specs.ColorType.{sample_number}
use Rattle.tiff_encode.specs.Stored.{unpacked_chunk}
use Rattle.tiff_encode.proofs.Storing.{chunk_stored, plain_stored}
use Rattle.tiff_encode.proofs.encoder.TiffEncoder.put_chunk.Goals as goal

pub returns-in-Some : goal.returns-in-Some
returns-in-Some g c =
    let number = sample_number (type_size g.T.TiffValue.value_type) g.T.Sample.bits in
    chunk_stored c.args.self.now c.args.image.now (map number c.args.samples.now) c.append_chunk.new.self c.append_chunk.new.image _
    c.in-Some.bytes.now c.append_chunk.result (sym (length-map c.args.samples.now number)) c.in-Some.ensures c.append_chunk.ensures

pub returns-in-Uncompressed : goal.returns-in-Uncompressed
returns-in-Uncompressed g c =
    let number = sample_number (type_size g.T.TiffValue.value_type) g.T.Sample.bits in
    let i = c.args.image.now in
    let numbers = map number c.args.samples.now in
    let packed = sym (ap (λ i. i.compression) c.image.view_is) ∙ c.in-Uncompressed.is in
    chunk_stored c.args.self.now i numbers c.append_samples.new.self c.append_samples.new.image
    (length c.args.samples.now)
    (unpacked_chunk i numbers) c.append_samples.result (sym (length-map c.args.samples.now number))
    (plain_stored i numbers packed (unpacked_chunk i numbers) refl) c.append_samples.ensures
