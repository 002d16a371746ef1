use Rattle.std.proofs.Common.{◌≡◌, ◌∙◌, ◌*◌, ◌/◌, ◌<◌, ◌⊎◌, ℕ, arith, subst}
use Rattle.tiff_page.specs.PageView as view
use Rattle.tiff_page.specs.lemmas.OutputRow.{in_place, row_handed, undone_numbers}
use Rattle.tiff_page.proofs.output_row.decode_row.Goals as goal

pub returns : goal.returns
returns c order stored holds b l =
    let p = view.page c.args.page.now in
    let size : ℕ = c.args.page.now.depth / 8 in
    let mid = c.undo_differences.new.row in
    c.complement.ensures b l
    ∙ row_handed order p c.args.color stored mid b c.requires.read c.requires.in_place
    (λ d. undone_numbers order p stored c.args.row.now mid (in_place p c.args.color c.requires.in_place).0 holds.same_length (holds.numbers d) (c.undo_differences.ensures.numbers d))
    (λ d. c.undo_differences.ensures.packed d ∙ holds.packed d) c.undo_differences.ensures.octets
    (subst (λ (n : ℕ). (c.args.page.now.depth < 8)
    ⊎ (n / size * size ≡ n)) holds.same_length c.requires.whole) (omega (arith, l, holds.same_length))
