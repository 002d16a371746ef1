use Rattle.tiffpage_lib.proofs.Steps.{gives}
use Rattle.tiffpage_lib.proofs.program.write_kept.Goals as goal

pub returns-in-Some : goal.returns-in-Some
returns-in-Some g c =
    rw (c.and.ensures, c.in-Some.is) (gives _ _ _ _ _ (rw c.deref.ensures.value at c.write.ensures))
