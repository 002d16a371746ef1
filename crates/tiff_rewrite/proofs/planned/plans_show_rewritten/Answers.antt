use Rattle.tiff_rewrite.specs.lemmas.PlannedShown.{plans_show_rewritten}
use Rattle.tiff_rewrite.proofs.planned.plans_show_rewritten.Goals as goal

pub returns : goal.returns
returns c = plans_show_rewritten
