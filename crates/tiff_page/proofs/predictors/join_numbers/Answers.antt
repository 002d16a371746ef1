use Rattle.std.proofs.Common.{◌≡◌, arith, length, take, drop, ◌∙◌, ◌*◌, ◌+◌, ◌-◌}
use Rattle.std.proofs.lemmas.List.{length-take, length-drop}
use Rattle.tiff_page.specs.lemmas.Rows.{join_more, number_within}
use Rattle.tiff_page.proofs.predictors.join_numbers.Goals as goal

pub loop-k-preserved : goal.loop-k-preserved
loop-k-preserved c =
    let w = number_within c.loop-k.k c.args.size (length c.args.planes.now) c.loop-k-test.true in
    let at = c.loop-k.k * c.args.size in
    let m : length (take (at + c.args.size - at) (drop at c.loop-k.row)) ≡ c.args.size =
    omega (arith, w, c.requires.same, c.loop-k.auto.row, length-take (at + c.args.size - at) (drop at c.loop-k.row), length-drop at c.loop-k.row) in
    join_more c.args.size _ c.loop-k.k _ _ c.args.planes.now c.loop-k.row c.join_number.new.number
    (omega arith)
    m (c.join_number.auto.number ∙ m) (omega (arith, w)) c.join_number.ensures c.loop-k.invariant
