use Rattle.std.proofs.Common.{rules, List, ℕ, ◌+◌, ◌-◌, ◌<◌, subst, sym}
use borrow.Rule.Slice.PartMut.{put_mid}
use Rattle.tiff_page.specs.PageView as view
use Rattle.tiff_page.specs.RowReads.{RowPut}
use Rattle.tiff_page.specs.lemmas.Rects.{filled_full}
use Rattle.tiff_page.specs.lemmas.NumberBytes.{put_in_place}
use Rattle.tiff_page.proofs.row_sink.ByteSliceRowSink.rows.Goals as goal

pub returns-clause-row : goal.returns-clause-row
returns-clause-row g c =
    let next = c.args.next.now in
    let p = view.page next.format.page.now in
    let file = (g.R.Source.contents c.args.source.now).bytes in
    let failed =
    g.R.Source.failures c.args.source.now < g.R.Source.failures c.read_finished.new.source in
    let out = c.args.self.now.out.now in
    let row = c.read_finished.new.out in
    subst (λ (xs : List ℕ). RowPut file next.format.order p next.format.color c.args.cursor.now c.read_finished.new.cursor failed next.at next.len xs (put_mid next.at (next.at + next.len - next.at) out row) c.read_finished.result) (sym (filled_full (next.at + next.len) out c.requires.room))
    (put_in_place file next.format.order p next.format.color c.args.cursor.now c.read_finished.new.cursor failed next.at next.len out row c.read_finished.result (search rules) c.requires.room c.read_finished.ensures.row)
