use Rattle.tiff_base.specs.Answers.{AnswersWithoutSource}
use Rattle.tiff_pages.specs.Check.{checks_in}
use Rattle.tiffpage_lib.specs.Check.{checks_under}
use Rattle.tiffpage_lib.proofs.InParts.{checks_refused, saw_nothing, sees_refused}
use Rattle.tiffpage_lib.proofs.in_parts.check_in_parts.Goals as goal

pub returns-in_err-checked : goal.returns-in_err-checked
returns-in_err-checked g c =
    sees_refused g.F.Files.reads_part c.args.name c.args.len g.S.SeenFile.bytes c.from_residual.result
    (λ answer. AnswersWithoutSource checks_in answer (checks_under c.args.limits.now g.S.SeenFile.bytes)) _ c.args.files.now c.args.files.now c.checks_in_parts.new.files
    c.in_err-checked.field-0.0 (checks_refused c.args.limits.now g.S.SeenFile.bytes)
    (saw_nothing g.F.Files.reads_part c.args.name c.args.len g.S.SeenFile.bytes c.args.files.now)
    c.in_err-checked.ensures c.from_residual.ensures.1
