use Rattle.std.proofs.Common.{refl}
use Rattle.tiffpage_lib.proofs.Steps.{fails, goes, makes, stops}
use Rattle.tiffpage_lib.proofs.program.job_replies.Goals as goal

pub returns-in_err-jobs : goal.returns-in_err-jobs
returns-in_err-jobs g c = stops _ _ _ _ _ _ c.in_err-jobs.ensures c.from_residual.ensures.1

pub returns-in_err-refuse_no_page : goal.returns-in_err-refuse_no_page
returns-in_err-refuse_no_page g c = goes _ _ _ _ _ _ _ c.in_ok-jobs.ensures
    (stops _ _ _ _ _ _ (rw c.deref.ensures.value at c.in_err-refuse_no_page.ensures, refl) c.from_residual-in_err-refuse_no_page.ensures.1)

pub returns-in_err-written : goal.returns-in_err-written
returns-in_err-written g c = goes _ _ _ _ _ _ _ c.in_ok-jobs.ensures
    (goes _ _ _ _ _ _ _ (rw c.deref.ensures.value at c.in_ok-refuse_no_page.ensures, refl)
    (stops _ _ _ _ _ _ (fails _ _ _ c.in_err-written.ensures) c.from_residual-in_err-written.ensures.1))

pub returns : goal.returns
returns g c = goes _ _ _ _ _ _ _ c.in_ok-jobs.ensures
    (goes _ _ _ _ _ _ _ (rw c.deref.ensures.value at c.in_ok-refuse_no_page.ensures, refl)
    (goes _ _ _ _ _ _ _ (makes _ _ _ (rw c.deref-2.ensures.value at c.in_ok-written.ensures))
    (c.write_kept.ensures)))
