use Rattle.std.proofs.Common.{◌≡◌, ◌∙◌, ◌*◌, ℕ, List, [], Ok, ap, arith, map, refl, sym}
use Rattle.std.specs.Int.{div_ceil}
use Rattle.std.proofs.lemmas.Result.{err_from_is_err_and}
use Rattle.tiff_base.specs.lemmas.Contents.{same_bytes}
use Rattle.tiff_page.specs.BufferPositions.{filled_to}
use Rattle.tiff_page.specs.NumberBytes.{bytes_in, no_bytes, whole_enough}
use Rattle.tiff_page.specs.Samples.{color_in, first_in, room_of}
use Rattle.tiff_page.specs.PageView as view
use Rattle.tiff_page.specs.lemmas.Requests.{filling_cause, zeros_filled, first_readable, portion_early, portion_filled}
use Rattle.tiff_page.specs.lemmas.PositionLaws.{sides_of}
use Rattle.tiff_page.specs.lemmas.Rects.{none_filled}
use Rattle.tiff_page.proofs.page_reader.PageReader.read_as.Goals as goal

pub returns-clause-answer : goal.returns-clause-answer
returns-clause-answer g c =
    let p = c.args.self.now.page.now in
    let size = g.row.N in
    let bytes_of : List g.row.T.Denot → List ℕ = λ xs. bytes_in size (map g.T.Number.bits xs) in
    let old = bytes_of c.new-sink.result.numbers.items in
    let none : old ≡ [] =
    ap (λ v. bytes_of v.items) c.new-sink.ensures ∙ ap bytes_of c.in_ok-numbers.ensures.none
    ∙ no_bytes size in
    let total = div_ceil c.args.len size * size in
    rw c.into_numbers.ensures (zeros_filled (g.R.Source.contents c.args.source.now).bytes c.args.self.now.order (view.page p) c.args.self.now.limits.now c.args.request (sides_of p) c.requires.laid (color_in c.args.request) c.args.sample_type size (first_in c.args.request) c.args.len
    (filled_to total old) _ g.met.T.Number.sized c.requires.size c.requires.typed c.in_ok-numbers.ensures.answer c.requires.room (none_filled total old none)
    (rw (same_bytes c.in_ok-numbers.ensures.kept.contents) at (c.in_ok-requested.ensures.answer total (whole_enough size g.met.T.Number.sized _ _ c.requires.room).1 ∙ ap Ok (sym c.in_ok-zeros_to.ensures.zeros))))

pub returns-in_err-requested-clause-answer : goal.returns-in_err-requested-clause-answer
returns-in_err-requested-clause-answer g c =
    let p = c.args.self.now.page.now in
    let answered =
    err_from_is_err_and c.from_residual-in_err-requested.result c.from_residual-in_err-requested.ensures.1 in
    rw (answered.1, answered.2) (filling_cause (g.R.Source.contents c.args.source.now).bytes c.args.self.now.order (view.page p) c.args.self.now.limits.now c.args.request (sides_of p) c.requires.laid _ _ (color_in c.args.request) c.args.sample_type (first_in c.args.request) c.args.len
    _ c.in_err-requested.field-0.0 (λ f. omega (arith, f, c.in_ok-numbers.ensures.kept.failures)) c.requires.typed c.in_ok-numbers.ensures.answer (rw (same_bytes c.in_ok-numbers.ensures.kept.contents) at (c.in_err-requested.ensures.answer (div_ceil (room_of (view.page p) c.args.request) g.row.N * g.row.N) (omega arith))))

pub returns-in_err-numbers-clause-asked : goal.returns-in_err-numbers-clause-asked
returns-in_err-numbers-clause-asked g c =
    let p = c.args.self.now.page.now in
    let answered = err_from_is_err_and c.from_residual.result c.from_residual.ensures.1 in
    rw (answered.1, answered.2) (λ r. c.in_err-numbers.ensures.asked (first_readable (g.R.Source.contents c.args.source.now).bytes c.args.self.now.order (view.page p) c.args.request (g.R.Source.contents c.args.source.now) (sides_of p) c.requires.laid r))

pub returns-in_err-requested-clause-asked : goal.returns-in_err-requested-clause-asked
returns-in_err-requested-clause-asked g c =
    let answered =
    err_from_is_err_and c.from_residual-in_err-requested.result c.from_residual-in_err-requested.ensures.1 in
    rw (answered.1, answered.2) (portion_filled c.args.self.now.order (view.page c.args.self.now.page.now) c.args.request _ (g.R.Source.contents c.args.source.now) (g.R.Source.contents c.allocate_output.new.source) c.in_ok-numbers.ensures.kept.contents c.in_err-requested.ensures.asked)

pub returns-in_err-numbers-clause-answer : goal.returns-in_err-numbers-clause-answer
returns-in_err-numbers-clause-answer g c =
    let p = c.args.self.now.page.now in
    let answered = err_from_is_err_and c.from_residual.result c.from_residual.ensures.1 in
    rw (answered.1, answered.2) (portion_early _ _ (g.R.Source.contents c.args.source.now).bytes c.args.self.now.order (view.page p) c.args.self.now.limits.now c.args.request (color_in c.args.request) c.args.sample_type (first_in c.args.request) c.args.len
    c.in_err-numbers.field-0.0 (sides_of p) c.requires.laid c.requires.typed refl refl c.in_err-numbers.ensures.answer)
