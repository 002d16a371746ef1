use Rattle.std.proofs.Common.{rules, ◌≡◌, [], option_map}
use Rattle.tiff_decode.proofs.Items.{one_given, at_end}
use Rattle.tiff_decode.specs.Items.{items_left}
use Rattle.tiff_decode.specs.Machine.{Decoding}
use Rattle.tiff_decode.specs.Reader.{reader_of}
use Rattle.tiff_decode.proofs.decoder.Decoder.next_item.Goals as goal

pub returns-in_default-clause-item : goal.returns-in_default-clause-item
returns-in_default-clause-item g c =
    let d : Decoding = reader_of c.args.self.now (option_map (λ d. d.now) c.args.other) in
    let none : items_left d c.args.last.now ≡ [] =
    at_end d c.args.last.now c.chosen.result.now (search rules) c.in_default.ensures in
    (none, none, search rules)

pub returns-clause-item : goal.returns-clause-item
returns-clause-item g c =
    let d : Decoding = reader_of c.args.self.now (option_map (λ d. d.now) c.args.other) in
    one_given d c.args.last.now c.chosen.result.now (c.in-Some.number, c.in-Some.entry.now) c.read_item.result _ _ (search rules) c.in-Some.ensures (search rules)
