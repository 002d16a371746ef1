use Rattle.tiffpage_lib.proofs.Steps.{goes, gives_lines, stops}
use Rattle.tiffpage_lib.proofs.program.list_pages.Goals as goal

pub returns-in_err-file : goal.returns-in_err-file
returns-in_err-file g c = stops _ _ _ _ _ _ c.in_err-file.ensures c.from_residual.ensures.1

pub returns : goal.returns
returns g c =
    goes _ _ _ _ _ _ _ c.in_ok-file.ensures (gives_lines _ _ _ _ c.file_list.ensures c.told_lines.ensures)
