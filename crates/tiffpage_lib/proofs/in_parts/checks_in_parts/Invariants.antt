use Rattle.tiffpage_lib.specs.Parts.{Saw}
use Rattle.tiffpage_lib.proofs.InParts.{ChecksSoFar}
use Rattle.tiffpage_lib.proofs.in_parts.checks_in_parts.Given as goal

abbrev pub invariant-loop-page : goal.invariant-loop-page
invariant-loop-page g l =
    Saw g.F.Files.reads_part l.name l.len g.S.SeenFile.bytes (ChecksSoFar l.limits g.S.SeenFile.bytes l.page-items l.end l.page-index l.checks.items) l.fn.files l.files
