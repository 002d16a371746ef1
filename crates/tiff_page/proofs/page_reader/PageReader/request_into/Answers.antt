use Rattle.std.proofs.Common.{rules, arith, ap, List, ℕ, length, subst, sym, ◌≡◌, ◌∙◌}
use Rattle.tiff_base.specs.Answers.{Answers}
use Rattle.tiff_page.specs.BufferPositions.{filled_to}
use Rattle.tiff_page.specs.Samples.{request_bytes}
use Rattle.tiff_page.specs.lemmas.Rects.{filled_full}
use Rattle.tiff_page.proofs.page_reader.PageReader.request_into.Goals as goal

pub returns-clause-answer : goal.returns-clause-answer
returns-clause-answer g c =
    let fill =
    request_bytes (g.R.Source.contents c.args.source.now).bytes c.args.self.now c.args.request in
    let was = g.R.Source.failures c.args.source.now in
    let now = g.R.Source.failures c.requested.new.source in
    let total = length c.args.buf.now in
    let new = c.requested.new.sink.out.now in
    let len : total ≡ length new =
    ap (λ (xs : List ℕ). length xs) (sym c.new-sink.ensures.bytes)
    ∙ c.requested.ensures.later.1 in
    let given =
    subst (λ (xs : List ℕ). Answers (λ _. xs) c.requested.result (fill c.args.buf.now) was now)
    (filled_full total new (omega (arith, len)))
    (subst (λ (xs : List ℕ). Answers (λ _. filled_to total new) c.requested.result (fill xs) was now) (ap (filled_to total) c.new-sink.ensures.bytes ∙ filled_full total c.args.buf.now (omega arith)) (c.requested.ensures.answer total c.requires.room)) in
    subst (λ (xs : List ℕ). Answers (λ _. xs) c.requested.result (fill c.args.buf.now) was now)
    {x = new} (search rules) given
