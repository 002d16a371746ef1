use Rattle.std.proofs.Common.{rules, List, ℕ, ◌≡◌, ◌∙◌, length, map, ap, sym, subst}
use Rattle.tiff_page.specs.ChunkData.{bytes_left}
use Rattle.tiff_page.specs.NumberBytes.{IsPut, bytes_in}
use Rattle.tiff_page.specs.PageView as view
use Rattle.tiff_page.specs.RowReads.{PutsRow, TakesRow}
use Rattle.tiff_page.specs.lemmas.Rects.{all_written}
use Rattle.tiff_page.specs.lemmas.NumberBytes.{all_of_room, put_from_room}
use Rattle.tiff_page.proofs.row_sink.NumberListRowSink.row.Goals as goal

pub returns-clause-row : goal.returns-clause-row
returns-clause-row g c =
    let next = c.args.next.now in
    let p = view.page next.format.page.now in
    let color = next.format.color in
    let bytes = (g.R.Source.contents c.args.source.now).bytes in
    let left = bytes_left bytes c.args.cursor.now in
    let rest = bytes_left bytes c.read_row.new.cursor in
    let list = c.args.self.now.numbers in
    let numbers = c.put_row.new.numbers in
    let bytes_of : List g.row.T.Denot → List ℕ = λ xs. bytes_in g.row.N (map g.T.Number.bits xs) in
    let row = c.deref.result.now in
    let out = c.read_row.new.out in
    let all : length out ≡ next.len = search rules in
    let same : row ≡ out = all_of_room row out _ _ (search rules) c.deref.ensures.value in
    let put =
    subst (λ (xs : List g.row.T.Denot). IsPut next.at row (bytes_of xs) (bytes_of numbers)) c.deref_mut-2.ensures.value c.put_row.ensures in
    subst (λ (xs : List g.row.T.Denot). PutsRow next.format.order p color left rest next.at next.len (bytes_of list.items) (bytes_of xs)) (all_written numbers list.items list.len (search rules))
    (put_from_room next.format.order p color left rest next.at next.len row (bytes_of list.items) (bytes_of numbers) (ap (λ (xs : List ℕ). length xs) same ∙ all)
    (subst (TakesRow next.format.order p color left rest) (sym same) c.in_ok-read_row.ensures.row) put)
