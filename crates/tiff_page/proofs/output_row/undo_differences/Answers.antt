use Rattle.std.proofs.Common.{true, false, sym, ◌≡◌, ◌∙◌}
use Rattle.tiff_page.specs.PageView as view
use Rattle.tiff_page.specs.lemmas.OutputRow.{summed_row}
use Rattle.tiff_base.specs.declared.tags.Predictor.TheVariants.{Horizontal}
use Rattle.tiff_page.proofs.output_row.undo_differences.Goals as goal
use Rattle.tiff_page.proofs.output_row.undo_differences.Goals.{in-Horizontal, in_default}

pub returns-then-matches-clause-numbers : goal.returns-then-matches-clause-numbers
returns-then-matches-clause-numbers c d =
    let h : c.args.page.now.predictor ≡ Horizontal =
    elim c.match-matches.branch [ in-Horizontal w ↦ w.in-Horizontal.is | in_default w ↦ (let f : false ≡ true = sym w.matches-is ∙ c.if-matches.true in cc) ] in
    summed_row (view.page c.args.page.now) c.args.row.now c.undo_horizontal.new.row _ _ h c.from.ensures (c.from-then-matches.ensures ∙ c.stored_samples.ensures.count) c.undo_horizontal.ensures
