use Rattle.tiff_page.specs.lemmas.Rows.{turned_more}
use Rattle.tiff_page.proofs.predictors.turn_numbers.Goals as goal

pub loop-k-preserved : goal.loop-k-preserved
loop-k-preserved c =
    turned_more c.args.size c.args.row.now c.loop-k.out c.turn_number.new.out c.loop-k.k c.turn_number.ensures c.loop-k.invariant
