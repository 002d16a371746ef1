use Rattle.std.proofs.Common.{ap, refl}
use Rattle.tiff_base.specs.SourceAndSink.{SourceRecord}
use Rattle.tiff_ffi.proofs.Plans.{found_reads}
use Rattle.tiff_ffi.proofs.plan.find_plan.Goals as goal

pub returns-in-Ok-clause-reads : goal.returns-in-Ok-clause-reads
returns-in-Ok-clause-reads g c =
    let page = c.in-Ok.page in
    let contents = g.R.Source.contents in
    found_reads (contents c.args.source).bytes (contents c.page_directory.new.source).bytes c.args.page page.kind page.order page.directory _ c.plan_here.result.0 _ _
    c.numbers_come_back.ensures c.names_come_back.ensures c.plans_read_pages.ensures c.bytes_fit.ensures (ap (λ (s : SourceRecord). s.bytes) c.in-Ok.ensures.kept.contents) refl
    c.in-Ok.ensures.answer c.plan_here.ensures.answer c.plan_here.ensures.plan
