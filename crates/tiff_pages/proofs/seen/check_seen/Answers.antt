use Rattle.std.proofs.Common.{◌∙◌, IfSome, refl, sym, ap, subst}
use Rattle.tiff_base.specs.Answers.{AnswersWithoutSource}
use Rattle.tiff_base.specs.Windows.{IsWanted}
use Rattle.tiff_decode.specs.Machine.{Decoding}
use Rattle.tiff_pages.specs.declared.check.PageCheck.{PageCheck}
use Rattle.tiff_pages.specs.OfFile.{check_of, under}
use Rattle.tiff_pages.specs.lemmas.SeenFiles.{check_seen, same_limits, unless_told, wanted_seen}
use Rattle.tiff_pages.proofs.seen.check_seen.Goals as goal

pub open_seen-requires-clause-header : goal.open_seen-requires-clause-header
open_seen-requires-clause-header g c = c.in_default.ensures.none refl g.F.SeenFile.bytes

pub returns : goal.returns
returns g c =
    let file = g.F.SeenFile.bytes in
    let limits = c.args.limits.now in
    let opened = c.in-Ok-open_seen.decoder in
    let limited = c.with_limits-decoder.result in
    let last = c.check_shown-checked.new.decoder in
    let mine = c.inner.result.now.windows.seen in
    let same = c.with_limits-decoder.ensures in
    let none_failed = ap (λ (d : Decoding). d.failures) same ∙ c.in-Ok-open_seen.ensures.failures in
    let readable =
    c.inner.ensures.readable ∙ c.check_shown-checked.ensures.readable
    ∙ ap (λ (d : Decoding). d.readable) same ∙ c.in-Ok-open_seen.ensures.readable in
    unless_told (λ answer. AnswersWithoutSource (λ (check : PageCheck). check) answer (check_of file limits c.args.place.0)) c.args.seen.now.seen c.unless_wanted.result
    c.check_shown-checked.result c.wanted.result c.unless_wanted.ensures
    (λ none. check_seen file limits c.args.place.0 opened limited c.check_shown-checked.result limited.failures last.failures c.in-Ok-open_seen.ensures.answer
    (same ∙ ap (λ l. under l opened) (same_limits c.in-Ok.limits limits c.in-Ok.ensures.cases)) c.check_shown-checked.ensures.check c.check_shown-checked.ensures.refused none_failed
    (sym c.inner.ensures.failures ∙ c.wanted.ensures.none none))
    (λ s is. wanted_seen file c.args.seen.now.seen mine s c.requires.of.len c.wanted.ensures.len readable (subst (λ o. IfSome o (IsWanted mine)) is c.wanted.ensures.wanted))
