use Rattle.tiffpage_lib.proofs.Steps.{fails, goes, makes, stops}
use Rattle.tiffpage_lib.proofs.program.write_picture.Goals as goal

pub returns-in_err-file : goal.returns-in_err-file
returns-in_err-file g c = stops _ _ _ _ _ _ c.in_err-file.ensures c.from_residual.ensures.1

pub returns-in_err-refuse_input : goal.returns-in_err-refuse_input
returns-in_err-refuse_input g c = goes _ _ _ _ _ _ _ c.in_ok-file.ensures
    (stops _ _ _ _ _ _ c.in_err-refuse_input.ensures c.from_residual-in_err-refuse_input.ensures.1)

pub returns-in_err-picture : goal.returns-in_err-picture
returns-in_err-picture g c = goes _ _ _ _ _ _ _ c.in_ok-file.ensures
    (goes _ _ _ _ _ _ _ c.in_ok-refuse_input.ensures
    (stops _ _ _ _ _ _ (fails _ _ _ c.in_err-picture.ensures) c.from_residual-in_err-picture.ensures.1))

pub returns : goal.returns
returns g c = goes _ _ _ _ _ _ _ c.in_ok-file.ensures
    (goes _ _ _ _ _ _ _ c.in_ok-refuse_input.ensures
    (goes _ _ _ _ _ _ _ (makes _ _ _ c.in_ok-picture.ensures)
    (rw c.deref.ensures.value at c.write_alone.ensures)))
