use Rattle.std.proofs.Common.{◌+◌, length, arith}
use Rattle.tiff_ffi.specs.Pages.{jobs_of_pages, pages_view}
use Rattle.tiff_ffi.proofs.Counts.{nothing, index_so}
use Rattle.tiff_ffi.proofs.PagesMade.{page_made, page_refused}
use Rattle.tiff_ffi.proofs.pages.add_pages.Goals as goal

pub returns-in-Err : goal.returns-in-Err
returns-in-Err c =
    let pages = c.args.pages.now in
    let i = c.loop-i.i in
    page_refused c.args.kind pages (jobs_of_pages c.args.kind pages) i
    (pages_view c.loop-i.jobs) c.loop-i.invariant.1.1 nothing c.loop-i-test.true _ c.count_page.result
    (c.requires.counts.1 (i + 1) (omega (arith, c.loop-i-test.true, c.requires.counts.0)))
    (index_so pages i nothing (length c.loop-i.seen.items) c.count_page.result c.loop-i-test.true c.loop-i.invariant.0 c.count_page.ensures.result)
    c.in-Err.refusal c.in-Err.ensures

pub loop-i-preserved : goal.loop-i-preserved
loop-i-preserved c =
    let pages = c.args.pages.now in
    let i = c.loop-i.i in
    let made =
    page_made c.args.kind pages (jobs_of_pages c.args.kind pages) i
    (pages_view c.loop-i.jobs) c.loop-i.invariant.1.1 nothing c.loop-i-test.true _ c.count_page.result
    (c.requires.counts.1 (i + 1) (omega (arith, c.loop-i-test.true, c.requires.counts.0)))
    (index_so pages i nothing (length c.loop-i.seen.items) c.count_page.result c.loop-i-test.true c.loop-i.invariant.0 c.count_page.ensures.result)
    (pages_view c.add_page.new.jobs) c.in_default.ensures in
    (omega (arith, c.count_page.ensures.len, c.loop-i.invariant.0), (c.count_page.ensures.counted, made))
