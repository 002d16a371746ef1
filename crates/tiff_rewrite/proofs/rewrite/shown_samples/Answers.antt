use Rattle.tiff_page.specs.PageView as view
use Rattle.tiff_rewrite.proofs.RowBack.{shown_alone}
use Rattle.tiff_rewrite.proofs.rewrite.shown_samples.Goals as goal

pub returns : goal.returns
returns c =
    shown_alone (view.page c.args.page.now) c.args.color c.row_len.result c.from.result c.requires.read c.requires.deep c.row_len.ensures.value c.from.ensures
