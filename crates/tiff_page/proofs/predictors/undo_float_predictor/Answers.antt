use Rattle.std.proofs.Common.{arith}
use Rattle.tiff_page.specs.lemmas.Rows.{joined}
use Rattle.tiff_page.proofs.predictors.undo_float_predictor.Goals as goal

pub returns : goal.returns
returns c =
    joined c.args.size c.args.stored c.args.row.now c.undo_horizontal.new.row c.copy_from_slice.new.self c.join_planes.new.row c.requires.size c.requires.whole (omega arith) (omega arith)
    c.undo_horizontal.ensures.numbers c.copy_from_slice.ensures.after c.join_planes.ensures
