use Rattle.std.proofs.Common.{rules, ◌≡◌, length}
use Rattle.std.specs.Vec.{vec_len}
use Rattle.tiff_page.specs.lemmas.NumberBytes.{row_has_room, row_put_grown}
use Rattle.tiff_page.proofs.numbers.append_row.Goals as goal

pub put_row-requires-clause-room : goal.put_row-requires-clause-room
put_row-requires-clause-room g c =
    row_has_room g.T.Number.bits g.row.N c.args.at c.div_ceil.result c.args.row.now c.args.numbers.now.items c.grow.new.numbers.items c.deref_mut.result.now g.met.T.Number.sized c.div_ceil.ensures c.in_ok-grow.ensures c.deref_mut.ensures.value

pub returns : goal.returns
returns g c =
    let all : length c.put_row.new.numbers ≡ vec_len c.grow.new.numbers = search rules in
    row_put_grown g.T.Number.bits g.row.N c.args.at c.div_ceil.result c.args.row.now c.args.numbers.now.items c.grow.new.numbers.items c.deref_mut.result.now g.met.T.Number.sized c.div_ceil.ensures c.in_ok-grow.ensures c.deref_mut.ensures.value c.put_row.new.numbers (vec_len c.grow.new.numbers) all c.put_row.ensures
