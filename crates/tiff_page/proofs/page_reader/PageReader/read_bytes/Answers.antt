use Rattle.std.proofs.Common.{◌≡◌, ◌∙◌, [], Ok, ap, arith, refl, sym}
use Rattle.std.proofs.lemmas.Result.{err_from_is_err_and}
use Rattle.tiff_base.specs.lemmas.Contents.{same_bytes}
use Rattle.tiff_page.specs.BufferPositions.{filled_to}
use Rattle.tiff_page.specs.Samples.{color_in, first_in}
use Rattle.tiff_page.specs.PageView as view
use Rattle.tiff_page.specs.declared.layout.DecodingSampleType.TheVariants as type
use Rattle.tiff_page.specs.lemmas.Requests.{portion_early, bytes_given, filling_cause, first_readable, portion_filled}
use Rattle.tiff_page.specs.lemmas.PositionLaws.{sides_of}
use Rattle.tiff_page.specs.lemmas.Rects.{none_filled}
use Rattle.tiff_page.proofs.page_reader.PageReader.read_bytes.Goals as goal

pub returns-in_err-bytes-clause-answer : goal.returns-in_err-bytes-clause-answer
returns-in_err-bytes-clause-answer g c =
    let p = c.args.self.now.page.now in
    let answered = err_from_is_err_and c.from_residual.result c.from_residual.ensures.1 in
    rw (answered.1, answered.2) (portion_early _ _ (g.R.Source.contents c.args.source.now).bytes c.args.self.now.order (view.page p) c.args.self.now.limits.now c.args.request (color_in c.args.request) type.U8 (first_in c.args.request) c.args.len c.in_err-bytes.field-0.0
    (sides_of p) c.requires.laid c.requires.typed refl refl c.in_err-bytes.ensures.answer)

pub returns-clause-answer : goal.returns-clause-answer
returns-clause-answer g c =
    let p = c.args.self.now.page.now in
    let old = c.new-sink.result.bytes.items in
    let none : old ≡ [] = ap (λ v. v.items) c.new-sink.ensures ∙ c.in_ok-bytes.ensures.none in
    rw c.into_bytes.ensures (bytes_given (g.R.Source.contents c.args.source.now).bytes c.args.self.now.order (view.page p) c.args.self.now.limits.now c.args.request (sides_of p) c.requires.laid (color_in c.args.request) type.U8 (first_in c.args.request) c.args.len
    (filled_to c.args.len old) _ refl c.requires.typed c.in_ok-bytes.ensures.answer
    (none_filled c.args.len old none)
    (rw (same_bytes c.in_ok-bytes.ensures.kept.contents) at (c.in_ok-requested.ensures.answer c.args.len c.requires.room ∙ ap Ok (sym c.in_ok-zeros_to.ensures.zeros))))

pub returns-in_err-requested-clause-answer : goal.returns-in_err-requested-clause-answer
returns-in_err-requested-clause-answer g c =
    let p = c.args.self.now.page.now in
    let answered =
    err_from_is_err_and c.from_residual-in_err-requested.result c.from_residual-in_err-requested.ensures.1 in
    rw (answered.1, answered.2) (filling_cause (g.R.Source.contents c.args.source.now).bytes c.args.self.now.order (view.page p) c.args.self.now.limits.now c.args.request (sides_of p) c.requires.laid _ _ (color_in c.args.request) type.U8 (first_in c.args.request) c.args.len
    _ c.in_err-requested.field-0.0 (λ f. omega (arith, f, c.in_ok-bytes.ensures.kept.failures)) c.requires.typed c.in_ok-bytes.ensures.answer (rw (same_bytes c.in_ok-bytes.ensures.kept.contents) at (c.in_err-requested.ensures.answer c.args.len c.requires.room)))

pub returns-in_err-bytes-clause-asked : goal.returns-in_err-bytes-clause-asked
returns-in_err-bytes-clause-asked g c =
    let p = c.args.self.now.page.now in
    let answered = err_from_is_err_and c.from_residual.result c.from_residual.ensures.1 in
    rw (answered.1, answered.2) (λ r. c.in_err-bytes.ensures.asked (first_readable (g.R.Source.contents c.args.source.now).bytes c.args.self.now.order (view.page p) c.args.request (g.R.Source.contents c.args.source.now) (sides_of p) c.requires.laid r))

pub returns-in_err-requested-clause-asked : goal.returns-in_err-requested-clause-asked
returns-in_err-requested-clause-asked g c =
    let answered =
    err_from_is_err_and c.from_residual-in_err-requested.result c.from_residual-in_err-requested.ensures.1 in
    rw (answered.1, answered.2) (portion_filled c.args.self.now.order (view.page c.args.self.now.page.now) c.args.request _ (g.R.Source.contents c.args.source.now) (g.R.Source.contents c.allocate_output.new.source) c.in_ok-bytes.ensures.kept.contents c.in_err-requested.ensures.asked)
