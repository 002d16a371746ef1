use Rattle.std.proofs.Common.{◌≡◌, ◌*◌, ◌≤◌, map, ap, sym, ◌∙◌, subst, arith}
use Rattle.tiff_base.specs.Types.{type_size}
use Rattle.tiff_page.specs.Laws.{HasSides}
use Rattle.tiff_page.specs.Pixels.{tabulate}
use Rattle.tiff_value.specs.ColorType.{sample_number}
use Rattle.tiff_encode.specs.Chunks.{chunk_rows, image_page, row_samples}
use Rattle.tiff_encode.specs.Parts.{rect_of, IsPatch}
use Rattle.tiff_encode.specs.lemmas.Data.Cut.{by_row, all_rows, rows_pushed, is_patch}
use Rattle.tiff_encode.proofs.encoder.image.state.ImageState.cut_out.Goals as goal

pub push_row-requires-clause-part : goal.push_row-requires-clause-part
push_row-requires-clause-part g c =
    let p = image_page c.args.self.now in
    let held = c.self.invariant in
    let sides : HasSides p =
    subst (λ i. HasSides (image_page i)) c.self.view_is
    (record { wide = held.wide.0; high = held.high.0; chunk_wide = held.cut.wide.0; chunk_high = held.cut.high.0 }) in
    subst (λ r. IsPatch p r) (sym c.chunk_area-chunk_area.ensures)
    (is_patch p c.args.chunk sides c.requires.one)

pub loop-at-preserved : goal.loop-at-preserved
loop-at-preserved g c =
    let number = sample_number (type_size g.T.TiffValue.value_type) g.T.Sample.bits in
    rows_pushed (image_page c.args.self.now) (map number c.args.samples.now) c.args.chunk c.loop-at.at (rect_of c.chunk_area-chunk_area.result)
    (map number c.loop-at.out.items) (map number c.push_row.new.out.items) c.chunk_area-chunk_area.ensures c.loop-at.invariant c.in_ok-push_row.ensures

pub returns : goal.returns
returns g c =
    let number = sample_number (type_size g.T.TiffValue.value_type) g.T.Sample.bits in
    let p = image_page c.args.self.now in
    let numbers = map number c.args.samples.now in
    let last : c.rows_of-rows.result ≤ c.loop-at.at = c.loop-at-test.false in
    let within = c.loop-at.auto.at-end in
    let rows : c.loop-at.at ≡ chunk_rows p c.args.chunk =
    (let same : c.loop-at.at ≡ c.rows_of-rows.result = omega (arith, last, within) in same ∙ c.rows_of-rows.ensures.count) in
    c.loop-at.invariant ∙ ap (λ n. tabulate (n * row_samples p) (by_row p numbers c.args.chunk)) rows ∙ all_rows p numbers c.args.chunk
