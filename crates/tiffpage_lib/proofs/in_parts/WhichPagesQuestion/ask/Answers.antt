use Rattle.tiff_base.specs.Answers.{AnswersWithoutSource}
use Rattle.tiff_pages.specs.Pages.{pages_in}
use Rattle.tiff_pages.specs.OfFile.{list_of}
use Rattle.tiffpage_lib.proofs.InParts.{asked}
use Rattle.tiffpage_lib.proofs.in_parts.WhichPagesQuestion.ask.Goals as goal

pub returns : goal.returns
returns g c =
    asked (λ file answer. AnswersWithoutSource pages_in answer (list_of file)) g.S.SeenFile.bytes c.args.seen.now.seen c.pages_seen.result c.pages_seen.ensures
