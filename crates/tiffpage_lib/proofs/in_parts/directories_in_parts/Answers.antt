use Rattle.tiff_base.specs.Answers.{AnswersWithoutSource}
use Rattle.tiff_pages.specs.Tree.{directories_in}
use Rattle.tiff_pages.specs.OfFile.{tree_of}
use Rattle.tiffpage_lib.proofs.InParts.{saw_nothing, sees_refused, tree_refused}
use Rattle.tiffpage_lib.proofs.in_parts.directories_in_parts.Goals as goal

pub returns-in_err-listed : goal.returns-in_err-listed
returns-in_err-listed g c =
    sees_refused g.F.Files.reads_part c.args.name c.args.len g.S.SeenFile.bytes c.from_residual.result
    (λ answer. AnswersWithoutSource directories_in answer (tree_of g.S.SeenFile.bytes)) _ c.args.files.now c.args.files.now c.answer_by_parts.new.files c.in_err-listed.field-0.0
    (tree_refused g.S.SeenFile.bytes) (saw_nothing g.F.Files.reads_part c.args.name c.args.len g.S.SeenFile.bytes c.args.files.now) c.in_err-listed.ensures c.from_residual.ensures.1
