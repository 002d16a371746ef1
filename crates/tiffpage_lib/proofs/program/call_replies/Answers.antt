use Rattle.std.proofs.Common.{refl}
use Rattle.tiffpage_lib.proofs.Steps.{fails, goes, makes, stops}
use Rattle.tiffpage_lib.proofs.program.call_replies.Goals as goal

pub returns-in_err-file : goal.returns-in_err-file
returns-in_err-file g c = stops _ _ _ _ _ _ c.in_err-file.ensures c.from_residual.ensures.1

pub returns-in_err-calls : goal.returns-in_err-calls
returns-in_err-calls g c = goes _ _ _ _ _ _ _ c.in_ok-file.ensures
    (stops _ _ _ _ _ _ c.in_err-calls.ensures c.from_residual-in_err-calls.ensures.1)

pub returns-in_err-replies : goal.returns-in_err-replies
returns-in_err-replies g c = goes _ _ _ _ _ _ _ c.in_ok-file.ensures
    (goes _ _ _ _ _ _ _ c.in_ok-calls.ensures
    (stops _ _ _ _ _ _ (fails _ _ _ c.in_err-replies.ensures) c.from_residual-in_err-replies.ensures.1))

pub returns : goal.returns
returns g c = goes _ _ _ _ _ _ _ c.in_ok-file.ensures
    (goes _ _ _ _ _ _ _ c.in_ok-calls.ensures
    (goes _ _ _ _ _ _ _ (makes _ _ _ (rw c.deref.ensures.value at c.in_ok-replies.ensures))
    (c.told.ensures, refl)))
