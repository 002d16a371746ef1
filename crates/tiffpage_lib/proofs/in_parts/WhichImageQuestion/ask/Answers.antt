use Rattle.tiff_base.specs.Answers.{AnswersWithoutSource}
use Rattle.tiff_pages.specs.OfFile.{check_of}
use Rattle.tiff_pages.specs.declared.check.PageCheck.{PageCheck}
use Rattle.tiffpage_lib.proofs.InParts.{asked}
use Rattle.tiffpage_lib.proofs.in_parts.WhichImageQuestion.ask.Goals as goal

pub returns : goal.returns
returns g c =
    asked (λ file answer. AnswersWithoutSource (λ (check : PageCheck). check) answer (check_of file c.args.self.now.limits.now c.args.self.now.place.0)) g.S.SeenFile.bytes
    c.args.seen.now.seen c.check_seen.result c.check_seen.ensures
