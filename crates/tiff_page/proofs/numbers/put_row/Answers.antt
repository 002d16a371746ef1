use Rattle.std.proofs.Common.{rules, ◌≡◌, ◌+◌, ◌%◌, ◌/◌, ◌≤◌, length}
use Rattle.tiff_base.specs.SourceAndSink.{AreOctets}
use Rattle.tiff_page.specs.lemmas.NumberBytes.{numbers_fit, row_put_whole}
use Rattle.tiff_page.proofs.numbers.put_row.Goals as goal

pub returns-then-row-eq0 : goal.returns-then-row-eq0
returns-then-row-eq0 g c =
    let octets : AreOctets c.args.row.now = search rules in
    let at : c.args.at % g.row.N ≡ 0 = search rules in
    let len : length c.args.row.now % g.row.N ≡ 0 = search rules in
    let fits : c.args.at / g.row.N + length c.args.row.now / g.row.N ≤ length c.args.numbers.now =
    numbers_fit g.T.Number.bits g.row.N c.args.at (length c.args.row.now) c.args.numbers.now c.requires.some at len c.requires.room in
    row_put_whole g.T.Number.bits g.row.N c.args.at c.args.row.now c.args.numbers.now c.put_front.new.numbers g.met.T.Number.sized octets at len fits c.put_front.ensures
