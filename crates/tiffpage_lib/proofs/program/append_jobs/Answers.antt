use Rattle.std.proofs.Common.{refl}
use Rattle.tiffpage_lib.proofs.Steps.{fails, goes, makes, stops}
use Rattle.tiffpage_lib.proofs.program.append_jobs.Goals as goal

pub returns-in_err-file : goal.returns-in_err-file
returns-in_err-file g c = stops _ _ _ _ _ _ c.in_err-file.ensures c.from_residual.ensures.1

pub returns-in_err-place : goal.returns-in_err-place
returns-in_err-place g c = goes _ _ _ _ _ _ _ c.in_ok-file.ensures
    (stops _ _ _ _ _ _ (fails _ _ _ (rw c.deref.ensures.value at c.in_err-place.ensures.answer)) c.from_residual-in_err-place.ensures.1)

pub returns-in_err-jobs : goal.returns-in_err-jobs
returns-in_err-jobs g c = goes _ _ _ _ _ _ _ c.in_ok-file.ensures
    (goes _ _ _ _ _ _ _ (makes _ _ _ (rw c.deref.ensures.value at c.in_ok-place.ensures.answer))
    (stops _ _ _ _ _ _ c.in_err-jobs.ensures c.from_residual-in_err-jobs.ensures.1))

pub returns-in_err-refuse_no_page : goal.returns-in_err-refuse_no_page
returns-in_err-refuse_no_page g c = goes _ _ _ _ _ _ _ c.in_ok-file.ensures
    (goes _ _ _ _ _ _ _ (makes _ _ _ (rw c.deref.ensures.value at c.in_ok-place.ensures.answer))
    (goes _ _ _ _ _ _ _ c.in_ok-jobs.ensures
    (stops _ _ _ _ _ _ (rw c.deref-2.ensures.value at c.in_err-refuse_no_page.ensures, refl) c.from_residual-in_err-refuse_no_page.ensures.1)))

pub returns-in_err-written : goal.returns-in_err-written
returns-in_err-written g c = goes _ _ _ _ _ _ _ c.in_ok-file.ensures
    (goes _ _ _ _ _ _ _ (makes _ _ _ (rw c.deref.ensures.value at c.in_ok-place.ensures.answer))
    (goes _ _ _ _ _ _ _ c.in_ok-jobs.ensures
    (goes _ _ _ _ _ _ _ (rw c.deref-2.ensures.value at c.in_ok-refuse_no_page.ensures, refl)
    (stops _ _ _ _ _ _ (fails _ _ _ c.in_err-written.ensures) c.from_residual-in_err-written.ensures.1))))

pub returns : goal.returns
returns g c = goes _ _ _ _ _ _ _ c.in_ok-file.ensures
    (goes _ _ _ _ _ _ _ (makes _ _ _ (rw c.deref.ensures.value at c.in_ok-place.ensures.answer))
    (goes _ _ _ _ _ _ _ c.in_ok-jobs.ensures
    (goes _ _ _ _ _ _ _ (rw c.deref-2.ensures.value at c.in_ok-refuse_no_page.ensures, refl)
    (goes _ _ _ _ _ _ _ (makes _ _ _ (rw (c.deref-3.ensures.value, c.deref-4.ensures.value) at c.in_ok-written.ensures))
    (c.add.ensures)))))
