use Rattle.std.proofs.Common.{rules, arith, ℕ, List, ◌≡◌, ◌*◌, ◌/◌, ◌<◌, ◌++◌, ◌⊎◌, ◌∙◌, ap, length, subst, sym}
use Rattle.tiff_page.specs.ChunkData.{bytes_left}
use Rattle.tiff_page.specs.PageView as view
use Rattle.tiff_page.specs.Row.{SwapsBytes}
use Rattle.tiff_page.specs.lemmas.OutputRow.{holds_same, holds_turned}
use Rattle.tiff_page.specs.lemmas.NumberBytes.{all_of_room}
use Rattle.tiff_page.specs.lemmas.ChunkRows.{row_taken}
use Rattle.tiff_page.proofs.output_row.RowFormat.read_finished.Goals as goal

pub returns-then-needs_swap-clause-row : goal.returns-then-needs_swap-clause-row
returns-then-needs_swap-clause-row g c =
    let file = (g.R.Source.contents c.args.source.now).bytes in
    let p = view.page c.args.self.now.page.now in
    let order = c.args.self.now.order in
    let size : ℕ = c.args.self.now.page.now.depth / 8 in
    let row = c.deref.result.now in
    let out = c.to_little_endian.new.out in
    let all : length c.read.new.buf ≡ length c.args.out.now = search rules in
    let same : row ≡ c.read.new.buf =
    all_of_room row c.read.new.buf _ _ (search rules) c.deref.ensures.value in
    let long : length row ≡ length c.args.out.now = ap (λ (xs : List ℕ). length xs) same ∙ all in
    let whole : (c.args.self.now.page.now.depth < 8) ⊎ (length row / size * size ≡ length row) =
    subst (λ (n : ℕ). (c.args.self.now.page.now.depth < 8)
    ⊎ (n / size * size ≡ n)) (sym long) c.requires.whole in
    let turned : SwapsBytes size row out =
    subst (λ (n : ℕ). SwapsBytes n row out) c.from.ensures c.to_little_endian.ensures in
    row_taken order p c.args.self.now.color _ _ row c.decode_row.new.row c.requires.in_place
    (subst (λ (xs : List ℕ). bytes_left file c.args.cursor.now ≡ xs
    ++ bytes_left file c.read.new.self) (sym same) c.in_ok-read.ensures.taken.0)
    (omega (arith, long)) (c.decode_row.ensures order row (holds_turned order p row out (sym c.needs_swap.ensures ∙ c.if-needs_swap.true) (omega (arith, long)) whole turned))

pub returns-clause-row : goal.returns-clause-row
returns-clause-row g c =
    let p = view.page c.args.self.now.page.now in
    let order = c.args.self.now.order in
    let row = c.read-2.new.buf in
    row_taken order p c.args.self.now.color _ _ row c.decode_row-2.new.row c.requires.in_place c.in_ok-read-2.ensures.taken.0 (omega arith)
    (c.decode_row-2.ensures order row (holds_same order p row (sym c.needs_swap.ensures
    ∙ c.if-needs_swap.false)))
