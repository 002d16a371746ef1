use Rattle.std.proofs.Common.{rules}
use Rattle.tiff_page.specs.lemmas.Rows.{complements}
use Rattle.tiff_page.proofs.predictors.invert_lanes.Goals as goal

pub returns : goal.returns
returns c = complements c.args.part.now c.requires (search rules)
