use Rattle.tiff_pages.specs.lemmas.Planned.{plans_make_pages}
use Rattle.tiff_pages.proofs.plan.plans_make_pages.Goals as goal

pub returns : goal.returns
returns c = plans_make_pages
