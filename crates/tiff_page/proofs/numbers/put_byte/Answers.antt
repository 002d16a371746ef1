use Rattle.std.proofs.Common.{rules, ◌<◌, ◌%◌, refl}
use Rattle.tiff_base.specs.SourceAndSink.{AreOctets}
use Rattle.tiff_page.specs.lemmas.NumberBytes.{byte_put, number_there, set_octets}
use Rattle.tiff_page.proofs.numbers.put_byte.Goals as goal

pub returns : goal.returns
returns g c =
    let octets : AreOctets c.bytes-bytes.result = search rules in
    let byte : c.args.byte < 256 = search rules in
    byte_put g.T.Number.bits g.row.N c.args.at c.args.byte _ c.args.numbers.now _ c.index-numbers-at.result _ c.of.result c.bytes-bytes.result g.met.T.Number.sized
    (set_octets c.bytes-bytes.result (c.args.at % g.row.N) c.args.byte octets byte)
    (number_there g.T.Number.bits g.row.N c.args.at c.args.numbers.now c.requires.some c.requires.room)
    c.index-numbers-at.is c.bytes-bytes.ensures refl c.of.ensures refl
