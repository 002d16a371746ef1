use Rattle.tiffpage_lib.proofs.Steps.{goes, stops}
use Rattle.tiffpage_lib.proofs.program.list_directories.Goals as goal

pub returns-in_err-len : goal.returns-in_err-len
returns-in_err-len g c = stops _ _ _ _ _ _ c.in_err-len.ensures c.from_residual.ensures.1

pub returns-in-Some : goal.returns-in-Some
returns-in-Some g c =
    goes _ _ _ _ _ _ _ c.in_ok-len.ensures (rw c.in-Some.is c.directories_in_parts.ensures)

pub returns-in-None : goal.returns-in-None
returns-in-None g c =
    goes _ _ _ _ _ _ _ c.in_ok-len.ensures (rw c.in-None.is c.whole_directories.ensures)
