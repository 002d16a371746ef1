use Rattle.std.proofs.Common.{rules, ◌<◌}
use Rattle.tiff_page.specs.PageView as view
use Rattle.tiff_page.specs.lemmas.NumberBytes.{put_in_list}
use Rattle.tiff_page.proofs.row_sink.ByteListRowSink.row.Goals as goal

pub returns-clause-row : goal.returns-clause-row
returns-clause-row g c =
    let next = c.args.next.now in
    let list = c.args.self.now.bytes in
    put_in_list (g.R.Source.contents c.args.source.now).bytes next.format.order
    (view.page next.format.page.now) next.format.color c.args.cursor.now c.read_row.new.cursor
    (g.R.Source.failures c.args.source.now < g.R.Source.failures c.read_row.new.source) next.at next.len list.len
    list.items c.deref_mut.result.now c.read_row.new.out c.read_row.result
    (search rules) c.requires.there c.deref_mut.ensures.value c.deref_mut.ensures.len c.read_row.ensures.row
