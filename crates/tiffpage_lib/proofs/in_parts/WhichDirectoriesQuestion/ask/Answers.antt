use Rattle.tiff_base.specs.Answers.{AnswersWithoutSource}
use Rattle.tiff_pages.specs.Tree.{directories_in}
use Rattle.tiff_pages.specs.OfFile.{tree_of}
use Rattle.tiffpage_lib.proofs.InParts.{asked}
use Rattle.tiffpage_lib.proofs.in_parts.WhichDirectoriesQuestion.ask.Goals as goal

pub returns : goal.returns
returns g c =
    asked (λ file answer. AnswersWithoutSource directories_in answer (tree_of file)) g.S.SeenFile.bytes c.args.seen.now.seen c.directories_seen.result c.directories_seen.ensures
