use Rattle.std.proofs.Common.{◌≡◌, Ok, IfOk, IfSome, subst}
use Rattle.tiff_ifd.specs.declared.limits.Limits.{Limits}
use Rattle.tiff_ifd.specs.TagLookup.{look_in}
use Rattle.tiff_page.specs.Checks.{page_of}
use Rattle.tiff_page.specs.Page.{PageRecord}
use Rattle.tiff_pages.specs.Plan.{IsPlanOf}
use Rattle.tiff_ffi.proofs.plan.plan_here.Goals as goal

pub returns-clause-plan : goal.returns-clause-plan
returns-clause-plan g c =
    let file = (g.R.Source.contents c.args.source).bytes in
    let page = c.args.page in
    subst (λ (l : Limits). IfOk c.page_plan-plan.result (λ found. IfSome found (λ plan. (p : PageRecord)
    → page_of (look_in page.kind page.order file l page.directory.entries) ≡ Ok p → IsPlanOf plan file l p)))
    c.default.ensures c.page_plan-plan.ensures.plan
