use Rattle.std.proofs.Common.{refl}
use Rattle.tiffpage_lib.proofs.Steps.{fails, goes, makes, stops}
use Rattle.tiffpage_lib.proofs.program.list_page.Goals as goal

pub returns-in_err-file : goal.returns-in_err-file
returns-in_err-file g c = stops _ _ _ _ _ _ c.in_err-file.ensures c.from_residual.ensures.1

pub returns-in_err-entries : goal.returns-in_err-entries
returns-in_err-entries g c = goes _ _ _ _ _ _ _ c.in_ok-file.ensures
    (stops _ _ _ _ _ _ (fails _ _ _ c.in_err-entries.ensures) c.from_residual-in_err-entries.ensures.1)

pub returns : goal.returns
returns g c = goes _ _ _ _ _ _ _ c.in_ok-file.ensures
    (goes _ _ _ _ _ _ _ (makes _ _ _ c.in_ok-entries.ensures)
    (c.told.ensures, refl))
