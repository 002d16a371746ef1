use Rattle.std.proofs.Common.{◌∙◌}
use Rattle.tiff_script.proofs.NumberWords.{decimal, hexadecimal}
use Rattle.tiff_script.proofs.numbers.magnitude.Goals as goal

pub returns-in-Some : goal.returns-in-Some
returns-in-Some c = c.number.ensures ∙ hexadecimal _ _ c.in-Some.ensures.cases

pub returns-in-None : goal.returns-in-None
returns-in-None c = c.number-in-None.ensures ∙ decimal _ c.in-None.ensures.cases
