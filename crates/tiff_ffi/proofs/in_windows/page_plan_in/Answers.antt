use Rattle.std.proofs.Common.{subst}
use Rattle.tiff_ffi.specs.Plan.{page_plan, ReadsPage}
use Rattle.tiff_ffi.specs.Status.{StatusPuts}
use Rattle.tiff_base.specs.Windows.{file_of}
use Rattle.tiff_ffi.proofs.StatusTells.{puts_told}
use Rattle.tiff_ffi.proofs.Plans.{given_reads}
use Rattle.tiff_ffi.proofs.SeenFiles.{in_order_of, tells_of}
use Rattle.tiff_ffi.proofs.in_windows.page_plan_in.Goals as goal

pub returns-in-Ok-clause-answer : goal.returns-in-Ok-clause-answer
returns-in-Ok-clause-answer g c =
    λ of. tells_of c.args.seen.now c.in-Some.windows.seen g.file c.put_value.result c.args.wanted.now _
    (λ file. StatusPuts (page_plan file c.args.page) c.put_value.result c.args.plan.now c.put_value.new.out)
    (c.in-Some.ensures).order of
    (puts_told (λ n. n) c.found_numbers.result (page_plan (file_of g.file c.in-Some.windows.seen) c.args.page) c.put_value.result c.args.plan.now c.put_value.new.out
    (c.found_numbers.ensures.answer (file_of g.file c.in-Some.windows.seen) c.args.page c.in-Ok.ensures.plan) c.put_value.ensures.status c.put_value.ensures.put c.put_value.ensures.kept)

pub returns-in-Ok-clause-reads : goal.returns-in-Ok-clause-reads
returns-in-Ok-clause-reads g c =
    λ of zero. subst (λ file. ReadsPage file c.args.page c.put_value.new.out)
    (in_order_of c.args.seen.now c.in-Some.windows.seen g.file (c.in-Some.ensures).order.0 of)
    (given_reads (file_of g.file c.in-Some.windows.seen) c.args.page c.found_numbers.result c.put_value.result c.put_value.new.out
    (c.found_numbers.ensures.reads (file_of g.file c.in-Some.windows.seen) c.args.page c.in-Ok.ensures.reads) c.put_value.ensures.status c.put_value.ensures.put zero)
