use Rattle.std.proofs.Common.{rules}
use Rattle.tiff_base.specs.SourceAndSink.{AreOctets}
use Rattle.tiff_base.specs.Types.{type_size}
use Rattle.tiff_encode.specs.lemmas.Shown.Color.{size_of_type}
use Rattle.tiff_encode.proofs.StoredBytes.{bytes_stored}
use Rattle.tiff_encode.proofs.encoder.TiffEncoder.put_bytes.Goals as goal

pub returns : goal.returns
returns g c =
    let ty = g.T.TiffValue.value_type in
    let octets : AreOctets c.args.bytes.now = search rules in
    bytes_stored c.args.image.now (type_size ty) c.args.bytes.now c.requires.stores c.fact_type.ensures (size_of_type ty) octets c.requires.whole
    c.args.self.now c.append_chunk.new.self c.append_chunk.new.image c.count.result c.append_chunk.result c.count.ensures.numbers c.append_chunk.ensures
