use Rattle.std.proofs.Common.{◌≡◌, ◌+◌, ◌-◌, ◌*◌, ◌≤◌, ℕ, length, ap, ◌∙◌, arith}
use Rattle.tiff_page.specs.PageView as view
use Rattle.std.proofs.Math.Path.{transport}
use Rattle.tiff_base.specs.SourceAndSink.{bytes_at}
use Rattle.tiff_page.specs.Layout.{row_bytes}
use Rattle.tiff_page.specs.Pixels.{needed_of_row}
use Rattle.tiff_rewrite.specs.Rewrite.{RowRewritten}
use Rattle.tiff_rewrite.proofs.RowsBack.{all_rows, no_rows, read_within, row_room, rows_more, width_within}
use Rattle.tiff_rewrite.proofs.rewrite.ChunkForm.put_rows.Goals as goal

pub loop-row-init : goal.loop-row-init
loop-row-init c =
    no_rows c.args.self.now.order (view.page c.args.self.now.page.now) c.args.self.now.color c.chunk_data_dimensions-width.result.0
    c.row_len-len.result c.read_len-read.result c.stored_row_bytes-step.result c.args.samples.now c.args.stored.now

pub put_row-requires-clause-width : goal.put_row-requires-clause-width
put_row-requires-clause-width c =
    omega (arith, width_within (view.page c.args.self.now.page.now) c.args.index, ap (λ (d : ℕ × ℕ). d.0) c.chunk_data_dimensions-width.ensures.size)

pub loop-row-preserved : goal.loop-row-preserved
loop-row-preserved c =
    let p = view.page c.args.self.now.page.now in
    let size = c.chunk_data_dimensions-width.ensures.size in
    let wide : c.chunk_data_dimensions-width.result.0 ≤ p.chunk_width =
    omega (arith, width_within p c.args.index, ap (λ (d : ℕ × ℕ). d.0) size) in
    let few : c.read_len-read.result ≤ c.stored_row_bytes-step.result =
    omega (arith, read_within p c.args.self.now.color c.chunk_data_dimensions-width.result.0 c.requires.read.stored.stores wide, c.read_len-read.ensures.value, c.stored_row_bytes-step.ensures.value) in
    let from : ℕ = c.loop-row.row * c.row_len-len.result in
    let to : ℕ = c.loop-row.row * c.stored_row_bytes-step.result in
    let a : from + c.row_len-len.result - from ≡ c.row_len-len.result = omega arith in
    let b : to + c.read_len-read.result - to ≡ c.read_len-read.result = omega arith in
    let room : to + c.read_len-read.result ≤ length c.loop-row.stored =
    row_room p c.args.self.now.color c.args.index c.loop-row.row c.read_len-read.result c.stored_row_bytes-step.result c.chunk_data_dimensions-width.result.1 (length c.loop-row.stored)
    (c.read_len-read.ensures.value ∙ ap (λ (d : ℕ × ℕ). needed_of_row p c.args.self.now.color (row_bytes p c.args.self.now.color d.0)) size)
    c.stored_row_bytes-step.ensures.value (ap (λ (d : ℕ × ℕ). d.1) size) c.loop-row-test.true
    (omega (arith, c.requires.stored, c.loop-row.auto.stored)) in
    rows_more c.args.self.now.order p c.args.self.now.color c.chunk_data_dimensions-width.result.0
    c.row_len-len.result c.read_len-read.result c.stored_row_bytes-step.result c.args.samples.now c.args.stored.now c.loop-row.row c.loop-row.stored c.put_row.new.row _
    few (omega arith) room (omega arith) c.loop-row.invariant
    (transport (λ t. RowRewritten c.args.self.now.order p c.args.self.now.color c.chunk_data_dimensions-width.result.0 (bytes_at c.args.samples.now from (a t)) (bytes_at c.loop-row.stored to (b t)) c.put_row.new.row)
    c.put_row.ensures)

pub returns : goal.returns
returns c =
    let p = view.page c.args.self.now.page.now in
    let size = c.chunk_data_dimensions-width.ensures.size in
    all_rows c.args.self.now.order p c.args.self.now.color c.args.index c.chunk_data_dimensions-width.result.0
    c.row_len-len.result c.read_len-read.result c.stored_row_bytes-step.result c.loop-row.row c.args.samples.now c.args.stored.now c.loop-row.stored
    (ap (λ (d : ℕ × ℕ). d.0) size) (c.row_len-len.ensures.value
    ∙ ap (λ (d : ℕ × ℕ). row_bytes p c.args.self.now.color d.0) size)
    (c.read_len-read.ensures.value ∙ ap (λ (d : ℕ × ℕ). needed_of_row p c.args.self.now.color (row_bytes p c.args.self.now.color d.0)) size)
    c.stored_row_bytes-step.ensures.value (omega (arith, ap (λ (d : ℕ × ℕ). d.1) size, c.loop-row.auto.row-end, c.loop-row-test.false)) c.loop-row.invariant
