use Rattle.std.proofs.Common.{◌≡◌, IfOk, subst}
use Rattle.tiff_base.specs.Answers.{ReadsOnly}
use Rattle.tiff_ifd.specs.Stretches.{HeaderReadable}
use Rattle.tiff_base.specs.Windows.{seen_by}
use Rattle.tiff_pages.specs.lemmas.SeenFiles.{opened_seen}
use Rattle.tiff_pages.proofs.seen.open_seen.Goals as goal

pub returns-clause-answer : goal.returns-clause-answer
returns-clause-answer g c =
    opened_seen g.F.SeenFile.bytes (seen_by c.args.seen.now.seen g.F.SeenFile.bytes) c.new.result.failed _ c.open.result c.new.ensures.failed c.open.ensures.answer c.open.ensures.count
    (subst (λ s. ReadsOnly (HeaderReadable (seen_by s g.F.SeenFile.bytes)) c.open.result) c.new.ensures.seen c.open.ensures.asked) c.requires.header

pub returns-clause-readable : goal.returns-clause-readable
returns-clause-readable g c =
    subst (λ s. IfOk c.open.result (λ d. d.readable
    ≡ (seen_by s g.F.SeenFile.bytes).readable)) c.new.ensures.seen c.open.ensures.readable
