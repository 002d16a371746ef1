use Rattle.std.proofs.Common.{arith}
use Rattle.std.specs.Vec.{vec_capacity, vec_len}
use Rattle.tiff_page.specs.lemmas.NumberBytes.{next_piece, piece_behind}
use Rattle.tiff_page.proofs.numbers.push_row.Goals as goal

pub push_numbers-list-requires-clause-whole : goal.push_numbers-list-requires-clause-whole
push_numbers-list-requires-clause-whole g c =
    (next_piece g.row.N c.loop-at.at c.min-more.result (vec_len c.loop-at.list) (vec_capacity c.loop-at.list) c.args.row.now g.met.T.Number.sized c.requires.whole c.loop-at.invariant.whole c.loop-at-test.true c.min-more.ensures c.loop-at.invariant.room).whole

pub push_numbers-list-requires-clause-room : goal.push_numbers-list-requires-clause-room
push_numbers-list-requires-clause-room g c =
    (next_piece g.row.N c.loop-at.at c.min-more.result (vec_len c.loop-at.list) (vec_capacity c.loop-at.list) c.args.row.now g.met.T.Number.sized c.requires.whole c.loop-at.invariant.whole c.loop-at-test.true c.min-more.ensures c.loop-at.invariant.room).fits

pub loop-at-preserved : goal.loop-at-preserved
loop-at-preserved g c =
    let piece =
    next_piece g.row.N c.loop-at.at c.min-more.result (vec_len c.loop-at.list)
    (vec_capacity c.loop-at.list) c.args.row.now g.met.T.Number.sized c.requires.whole c.loop-at.invariant.whole c.loop-at-test.true c.min-more.ensures c.loop-at.invariant.room in
    record {
      within = omega (arith, c.loop-at-test.true, c.min-more.ensures);
      whole = piece.next;
      room =
          omega (arith, piece.rest, c.push_numbers-list.ensures.len, c.push_numbers-list.ensures.capacity);
      written =
          piece_behind c.loop-at.at c.min-more.result c.args.row.now _ _ _ _ piece.bytes c.loop-at.invariant.written c.push_numbers-list.ensures.bytes;
    }
