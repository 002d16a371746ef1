use Rattle.tiffpage_lib.proofs.Steps.{fails, goes, makes, stops}
use Rattle.tiffpage_lib.proofs.program.write_gray.Goals as goal

pub returns-in_err-samples : goal.returns-in_err-samples
returns-in_err-samples g c = stops _ _ _ _ _ _ c.in_err-samples.ensures c.from_residual.ensures.1

pub returns-in_err-file : goal.returns-in_err-file
returns-in_err-file g c = goes _ _ _ _ _ _ _ c.in_ok-samples.ensures
    (stops _ _ _ _ _ _ (fails _ _ _ (rw c.deref.ensures.value at c.in_err-file.ensures.answer)) c.from_residual-in_err-file.ensures.1)

pub returns : goal.returns
returns g c = goes _ _ _ _ _ _ _ c.in_ok-samples.ensures
    (goes _ _ _ _ _ _ _ (makes _ _ _ (rw c.deref.ensures.value at c.in_ok-file.ensures.answer)) (rw c.deref-2.ensures.value at c.write_alone.ensures))
