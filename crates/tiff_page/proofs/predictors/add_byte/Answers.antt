use Rattle.tiff_page.specs.lemmas.Rows.{adds_1}
use Rattle.tiff_page.proofs.predictors.add_byte.Goals as goal

pub returns : goal.returns
returns c = adds_1 c.args.row.now c.args.from c.args.to c.requires.within
