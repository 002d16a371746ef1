use Rattle.std.proofs.Common.{◌∙◌, sym}
use Rattle.tiff_page.specs.PageView as view
use Rattle.tiff_page.specs.lemmas.OutputRow.{whole_stood}
use Rattle.tiff_page.proofs.output_row.turn_whole.Goals as goal

pub returns-else-needs_swap : goal.returns-else-needs_swap
returns-else-needs_swap c =
    whole_stood c.args.order (view.page c.args.page.now) c.args.row.now (sym c.needs_swap.ensures
    ∙ c.if-needs_swap.false) c.requires.size
