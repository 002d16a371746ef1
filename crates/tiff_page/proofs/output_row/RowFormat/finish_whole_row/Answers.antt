use Rattle.std.proofs.Common.{◌≡◌, ◌∙◌, ◌*◌, length, arith, sym}
use Rattle.tiff_page.specs.PageView as view
use Rattle.tiff_page.specs.lemmas.OutputRow.{whole, whole_deep, whole_handed, shown_bytes, stored_fill}
use Rattle.tiff_page.proofs.output_row.RowFormat.finish_whole_row.Goals as goal

pub keep_pixels-requires-clause-row : goal.keep_pixels-requires-clause-row
keep_pixels-requires-clause-row c =
    stored_fill (view.page c.args.self.now.page.now) c.args.self.now.color c.args.self.now.width
    (c.from.result * c.from-size.result) (length c.undo_whole.new.row) c.requires.read c.requires.whole c.requires.width
    (omega (arith, c.requires.row)) (λ i. (c.from.ensures
    ∙ c.stored_samples.ensures.count) i * c.from-size.ensures i)

pub keep_pixels-requires-clause-out : goal.keep_pixels-requires-clause-out
keep_pixels-requires-clause-out c =
    c.requires.out ∙ shown_bytes (view.page c.args.self.now.page.now) c.args.self.now.color c.args.self.now.width
    (whole (view.page c.args.self.now.page.now) c.args.self.now.color c.requires.read (whole_deep (view.page c.args.self.now.page.now) c.args.self.now.color c.requires.read c.requires.whole)).1
    ∙ sym (λ i. c.args.self.now.width * ((c.from-2.ensures
    ∙ c.samples_in_chunk.ensures) i * c.from-size.ensures i))

pub returns : goal.returns
returns c b l =
    let out : length c.args.out.now
    ≡ c.args.self.now.width * (c.from-2.result * c.from-size.result) =
    c.requires.out ∙ shown_bytes (view.page c.args.self.now.page.now) c.args.self.now.color c.args.self.now.width
    (whole (view.page c.args.self.now.page.now) c.args.self.now.color c.requires.read (whole_deep (view.page c.args.self.now.page.now) c.args.self.now.color c.requires.read c.requires.whole)).1
    ∙ sym (λ i. c.args.self.now.width * ((c.from-2.ensures
    ∙ c.samples_in_chunk.ensures) i * c.from-size.ensures i)) in
    c.complement.ensures b l
    ∙ whole_handed c.args.self.now.order (view.page c.args.self.now.page.now) c.args.self.now.color c.args.row.now c.undo_whole.new.row c.args.self.now.width (c.from-2.result * c.from-size.result) (c.from.result * c.from-size.result) b _
    c.requires.read c.requires.whole c.requires.width c.requires.row (λ i. (c.from-2.ensures
    ∙ c.samples_in_chunk.ensures) i * c.from-size.ensures i)
    (λ i. (c.from.ensures ∙ c.stored_samples.ensures.count) i * c.from-size.ensures i)
    c.undo_whole.ensures.numbers c.undo_whole.ensures.octets (omega (arith, l, out))
    (c.keep_pixels.ensures b (omega (arith, l)))
