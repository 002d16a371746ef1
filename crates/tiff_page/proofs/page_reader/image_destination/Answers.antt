use Rattle.std.proofs.Common.{arith, ℕ, ◌∙◌, ◌+◌, ◌*◌, ◌/◌, ◌<◌, ◌^◌, ap, sym}
use Rattle.std.proofs.lemmas.Nat.{mul-lt}
use Rattle.tiff_page.specs.Layout.{row_bits}
use Rattle.tiff_page.specs.Laws.{HasSides}
use Rattle.tiff_page.specs.PageView as view
use Rattle.tiff_page.specs.lemmas.Filling.{same_x, same_y}
use Rattle.tiff_page.specs.lemmas.PositionLaws.{chunks_within}
use Rattle.tiff_page.proofs.page_reader.image_destination.Goals as goal

pub overflow_add-result : goal.overflow_add-result
overflow_add-result c =
    let p = view.page c.args.page.now in
    let s : HasSides p =
    record { wide = c.args.page.now.wide; high = c.args.page.now.high; chunk_wide = c.args.page.now.chunk_wide; chunk_high = c.args.page.now.chunk_high } in
    let m : c.from.result * c.args.page.now.height < 2 ^ 16 * 2 ^ 32 =
    mul-lt c.from.result c.args.page.now.height (2 ^ 16) (2 ^ 32) (omega arith) (omega arith) in
    omega (arith, (chunks_within p c.args.chunk s).rows, ap (λ r. r.y) c.rect-rect.ensures.position, m)

pub overflow_cast-rect : goal.overflow_cast-rect
overflow_cast-rect c =
    let p = view.page c.args.page.now in
    let s : HasSides p =
    record { wide = c.args.page.now.wide; high = c.args.page.now.high; chunk_wide = c.args.page.now.chunk_wide; chunk_high = c.args.page.now.chunk_high } in
    omega (arith, (chunks_within p c.args.chunk s).columns, ap (λ r. r.x) c.rect-rect.ensures.position)

pub returns-clause-top : goal.returns-clause-top
returns-clause-top c =
    (λ t. c.from.ensures t * c.args.page.now.height
    + ((ap (λ r. r.y) c.rect-rect.ensures.position) ∙ sym (same_y (view.page c.args.page.now) c.args.plane c.args.chunk c.requires)) t)

pub returns-clause-left : goal.returns-clause-left
returns-clause-left c =
    let p = view.page c.args.page.now in
    ap (λ (n : ℕ). n / 8) (c.row_bits.ensures.value
    ∙ ap (row_bits p c.args.layout.color) ((ap (λ r. r.x) c.rect-rect.ensures.position) ∙ sym (same_x p c.args.plane c.args.chunk c.requires)))
