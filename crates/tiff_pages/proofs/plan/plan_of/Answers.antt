use Rattle.std.proofs.Common.{rules, ◌≡◌, Some}
use Rattle.tiff_page.specs.PageView as view
use Rattle.tiff_pages.specs.Plan.{plan_of}
use Rattle.tiff_pages.proofs.PlanOf.{plan_is}
use Rattle.tiff_pages.proofs.plan.plan_of.Goals as goal

pub returns-clause-plan : goal.returns-clause-plan
unfolding plan_of
returns-clause-plan c file limits e =
    let page = view.page c.args.page.now in
    let value : plan_of c.args.kind c.args.order c.args.directory.now page
    ≡ Some c.plan_with-plan.result = search rules in
    plan_is c.args.kind c.args.order file limits c.args.directory.now page c.plan_with-plan.result value c.is_page.ensures c.is_whole.ensures.offsets c.is_whole.ensures.byte_counts e
