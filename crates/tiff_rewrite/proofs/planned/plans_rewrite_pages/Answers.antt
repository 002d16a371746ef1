use Rattle.tiff_rewrite.proofs.PlannedPut.{plans_rewrite_pages}
use Rattle.tiff_rewrite.proofs.planned.plans_rewrite_pages.Goals as goal

pub returns : goal.returns
returns c = plans_rewrite_pages
