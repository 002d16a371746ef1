use Rattle.std.proofs.Common.{map, sym, subst}
use Rattle.std.proofs.lemmas.List.{length-map}
use Rattle.tiff_base.specs.Types.{type_size}
use Rattle.tiff_value.specs.ColorType.{sample_number}
use Rattle.tiff_encode.specs.Stored.{IsChunkStored}
use Rattle.tiff_encode.proofs.Storing.{chunk_stored}
use Rattle.tiff_encode.proofs.encoder.TiffEncoder.append_packed.Goals as goal

pub returns : goal.returns
returns g c =
    let number = sample_number (type_size g.T.TiffValue.value_type) g.T.Sample.bits in
    let i = c.args.image.now in
    let numbers = map number c.args.samples.now in
    let is_stored =
    subst (λ xs. IsChunkStored i xs numbers) (sym c.deref.ensures.value) c.in_ok-pack_samples.ensures in
    chunk_stored c.args.self.now i numbers c.append_chunk.new.self c.append_chunk.new.image _ c.deref.result.now c.append_chunk.result
    (sym (length-map c.args.samples.now number)) is_stored c.append_chunk.ensures
