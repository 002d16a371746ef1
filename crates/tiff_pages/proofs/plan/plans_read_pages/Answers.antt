use Rattle.tiff_pages.specs.lemmas.Planned.{plans_read_pages}
use Rattle.tiff_pages.proofs.plan.plans_read_pages.Goals as goal

pub returns : goal.returns
returns c = plans_read_pages
