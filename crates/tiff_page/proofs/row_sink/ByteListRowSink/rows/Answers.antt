use Rattle.std.proofs.Common.{rules, arith, ap, List, ℕ, ◌≡◌, ◌+◌, ◌-◌, ◌<◌, ◌≤◌, ◌∙◌, ◌++◌, length, take, drop, subst}
use borrow.Rule.Slice.PartMut.{put_mid}
use Rattle.tiff_page.specs.ChunkData.{bytes_left}
use Rattle.std.specs.Prelude.{OnOk}
use Rattle.tiff_page.specs.Reach.{Moves}
use Rattle.tiff_page.specs.PageView as view
use Rattle.tiff_page.specs.RowReads.{RowPut}
use Rattle.tiff_page.specs.lemmas.Rects.{filled_length}
use Rattle.tiff_page.specs.lemmas.NumberBytes.{all_of_room, put_in_list, put_into_bytes}
use Rattle.tiff_page.proofs.row_sink.ByteListRowSink.rows.Goals as goal

pub returns-then-next-le-LONGEST_COPIED-clause-row : goal.returns-then-next-le-LONGEST_COPIED-clause-row
returns-then-next-le-LONGEST_COPIED-clause-row g c =
    let next = c.args.next.now in
    let bytes = (g.R.Source.contents c.args.source.now).bytes in
    let left = bytes_left bytes c.args.cursor.now in
    let rest = bytes_left bytes c.read_finished.new.cursor in
    let row = c.deref.result.now in
    let out = c.read_finished.new.out in
    let all : length out ≡ next.len = search rules in
    let same : row ≡ out = all_of_room row out _ _ (search rules) c.deref.ensures.value in
    put_into_bytes next.format.order (view.page next.format.page.now) next.format.color left rest next.at next.len row out c.args.self.now.bytes.items c.append_row.new.numbers.items same all c.in_ok-read_finished.ensures.row c.in_ok-append_row.ensures

pub returns-clause-row : goal.returns-clause-row
returns-clause-row g c =
    let next = c.args.next.now in
    let p = view.page next.format.page.now in
    let file = (g.R.Source.contents c.args.source.now).bytes in
    let failed =
    g.R.Source.failures c.args.source.now < g.R.Source.failures c.read_finished-2.new.source in
    let list = c.zeros_to.new.self.bytes in
    let mid = c.deref_mut-2.result.now in
    let row = c.read_finished-2.new.out in
    let out = put_mid next.at (next.at + next.len - next.at) mid row in
    let zeros = c.in_ok-zeros_to.ensures.zeros in
    let long =
    ap (λ (xs : List ℕ). length xs) zeros
    ∙ filled_length (next.at + next.len) c.args.self.now.bytes.items in
    subst (λ (xs : List ℕ). RowPut file next.format.order p next.format.color c.args.cursor.now c.read_finished-2.new.cursor failed next.at next.len xs (take list.len (out ++ drop (length out) list.items)) c.read_finished-2.result) zeros
    (put_in_list file next.format.order p next.format.color c.args.cursor.now c.read_finished-2.new.cursor failed next.at next.len list.len
    list.items mid row c.read_finished-2.result (search rules) (omega (arith, long)) c.deref_mut-2.ensures.value c.deref_mut-2.ensures.len c.read_finished-2.ensures.row)

pub returns-clause-moves : goal.returns-clause-moves
returns-clause-moves g c =
    let next = c.args.next.now in
    let zeros =
    ap (λ (xs : List ℕ). length xs) c.in_ok-zeros_to.ensures.zeros
    ∙ filled_length (next.at + next.len) c.args.self.now.bytes.items in
    let there : next.at + next.len ≤ length c.deref_mut-2.result.now =
    omega (arith, zeros, ap (λ (xs : List ℕ). length xs) c.deref_mut-2.ensures.value) in
    subst (λ (n : ℕ). OnOk c.read_finished-2.result (Moves c.args.cursor.now n c.read_finished-2.new.cursor)) (search rules) c.read_finished-2.ensures.moves
