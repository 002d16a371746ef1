use Rattle.std.proofs.Common.{rules, ◌<◌, ◌/◌, length, refl}
use Rattle.tiff_page.specs.lemmas.NumberBytes.{placed_more}
use Rattle.tiff_page.proofs.numbers.put_front.Goals as goal

pub loop-k-preserved : goal.loop-k-preserved
loop-k-preserved g c =
    let l : c.loop-k.k < length c.loop-k.numbers = search rules in
    let r : c.loop-k.k < length c.args.row.now / g.row.N = search rules in
    placed_more g.T.Number.bits g.row.N c.loop-k.k c.args.row.now c.of.result _ c.index-pieces-k.result _ c.as_chunks.ensures.front r c.index-pieces-k.is c.of.ensures
    c.args.numbers.now c.loop-k.numbers _ l refl c.loop-k.invariant
