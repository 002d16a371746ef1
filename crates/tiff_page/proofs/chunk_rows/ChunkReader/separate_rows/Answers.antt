use Rattle.std.proofs.Common.{arith, ◌≡◌, ℕ, ◌<◌, ◌≤◌, ◌∙◌, ◌+◌, ◌-◌, ◌*◌, List, length, refl, drop, ap, sym, subst}
use Rattle.std.proofs.Math.Nat.{mul-le-mul_right}
use Rattle.std.proofs.lemmas.Result.{err_from_is_err_and}
use Rattle.tiff_base.specs.lemmas.Contents.{same_bytes}
use Rattle.tiff_page.specs.Pixels.{chunk_data, stored_row_bytes, needed_of_row}
use Rattle.tiff_page.specs.Counts.{all_chunks}
use Rattle.tiff_page.specs.Layout.{row_bytes}
use Rattle.tiff_page.specs.Rect.{rect}
use Rattle.tiff_page.specs.BufferPositions.{Writes, IsIn, in_rect, chunk_byte}
use Rattle.tiff_page.specs.ChunkData.{bytes_left}
use Rattle.tiff_page.specs.PageView as view
use Rattle.tiff_page.specs.lemmas.ChunkRows.{need_within}
use Rattle.tiff_page.specs.Reach.{Moves}
use Rattle.tiff_page.specs.lemmas.Requests.{chunk_asked, front_stands, row_asked, behind_asked, next_stands, stands_on}
use Rattle.tiff_page.specs.lemmas.Bands.{row_below, width_within, row_some, row_bytes_are, row_held, next_row, too_short}
use Rattle.tiff_page.specs.lemmas.Rects.{no_row, row_put_there, row_room}
use Rattle.tiff_page.specs.lemmas.PositionLaws.{sides_of}
use Rattle.tiff_page.proofs.chunk_rows.ChunkReader.separate_rows.Goals as goal

pub loop-row-init : goal.loop-row-init
loop-row-init g c =
    let bytes = (g.R.Source.contents c.args.source.now).bytes in
    let p = view.page c.args.self.now.format.page.now in
    let order = c.args.self.now.format.order in
    let color = c.args.self.now.format.color in
    let k = c.args.self.now.index in
    let band = c.args.band in
    let start = band.from * stored_row_bytes p in
    let s : band.from * c.stored_row_bytes.result ≡ start =
    ap (λ (m : ℕ). band.from * m) c.stored_row_bytes.ensures.value in
    let front = front_stands p k 0 c.cursor-cursor.result c.cursor-cursor.ensures.readable in
    let none : band.from - band.from ≡ 0 = omega arith in
    record {
      later = g.met.W.RowSink.itself c.args.sink.now;
      same = c.in_ok-pass.ensures.kept.contents;
      count = omega (arith, c.in_ok-pass.ensures.kept.swallowed);
      stands =
          stands_on p k 0 start start c.cursor-cursor.result c.pass.new.self (omega arith) front
          (subst (λ (m : ℕ). Moves c.cursor-cursor.result m c.pass.new.self) s c.in_ok-pass.ensures.moves);
      position =
          λ z. c.in_ok-pass.ensures.passed
          ∙ ap (λ (xs : List ℕ). drop (band.from * c.stored_row_bytes.result) xs)
          (c.cursor-cursor.ensures.rest bytes order)
          ∙ ap (λ (m : ℕ). drop m (chunk_data bytes order p k)) s;
      enough = λ z. Prim.absurd (omega (arith, z));
      written =
          subst (λ (m : ℕ). Writes (IsIn band.destination.stride band.destination.top m band.destination.left (row_bytes p color (rect p k).width)) (in_rect (λ r b. chunk_byte bytes order p color k (band.from + r) b) band.destination.stride band.destination.top band.destination.left) (g.W.RowSink.bytes c.args.sink.now) (g.W.RowSink.bytes c.args.sink.now)) (sym none)
          (no_row (λ r b. chunk_byte bytes order p color k (band.from
          + r) b) band.destination.stride band.destination.top band.destination.left (row_bytes p color (rect p k).width) (g.W.RowSink.bytes c.args.sink.now));
    }

pub overflow_add-at : goal.overflow_add-at
overflow_add-at g c =
    let p = view.page c.args.self.now.format.page.now in
    let to = c.args.band.destination in
    let rows = c.args.band.to - c.args.band.from in
    let len = row_bytes p c.args.self.now.format.color (rect p c.args.self.now.index).width in
    let fits =
    row_room to.stride to.top rows (c.loop-row.row - c.args.band.from) to.left len ((to.top
    + rows) * to.stride) (omega (arith, c.loop-row-test.true, c.loop-row.auto.row)) c.requires.columns (omega arith) in
    omega (arith, fits, c.requires.few)

pub overflow_mul-at : goal.overflow_mul-at
overflow_mul-at g c =
    let p = view.page c.args.self.now.format.page.now in
    let to = c.args.band.destination in
    let rows = c.args.band.to - c.args.band.from in
    let len = row_bytes p c.args.self.now.format.color (rect p c.args.self.now.index).width in
    let fits =
    row_room to.stride to.top rows (c.loop-row.row - c.args.band.from) to.left len ((to.top
    + rows) * to.stride) (omega (arith, c.loop-row-test.true, c.loop-row.auto.row)) c.requires.columns (omega arith) in
    omega (arith, fits, c.requires.few)

pub overflow_add-to_row : goal.overflow_add-to_row
overflow_add-to_row g c =
    let to = c.args.band.destination in
    let rows = c.args.band.to - c.args.band.from in
    let l =
    row_below to.top rows to.stride ((to.top + rows) * to.stride)
    (c.loop-row.row - c.args.band.from) c.requires.some (omega arith)
    (omega (arith, c.loop-row-test.true, c.loop-row.auto.row)) in
    omega (arith, l, c.requires.few)

pub row-requires : goal.row-requires
row-requires g c =
    let p = view.page c.args.self.now.format.page.now in
    let w = c.args.self.now.wide in
    let to = c.args.band.destination in
    let rows = c.args.band.to - c.args.band.from in
    let n : c.row_len-len.result ≡ row_bytes p c.args.self.now.format.color
    (rect p c.args.self.now.index).width =
    c.row_len-len.ensures.value ∙ ap (row_bytes p c.args.self.now.format.color) w in
    let fits =
    λ (size : ℕ) (l : (to.top + rows) * to.stride ≤ size). row_room to.stride to.top rows
    (c.loop-row.row - c.args.band.from) to.left (row_bytes p c.args.self.now.format.color (rect p c.args.self.now.index).width) size (omega (arith, c.loop-row-test.true, c.loop-row.auto.row)) c.requires.columns l in
    record {
      read = c.requires.read;
      width = omega (arith, w, width_within p c.args.self.now.index);
      len = c.row_len-len.ensures.value;
      there =
          omega (arith, fits (length (g.W.RowSink.bytes c.loop-row.sink)) (omega (arith, c.requires.there, c.loop-row.invariant.written.0)), n);
      fits = omega (arith, fits ((to.top + rows) * to.stride) (omega arith), n, c.requires.few);
    }

pub returns-in_err-row-clause-answer : goal.returns-in_err-row-clause-answer
returns-in_err-row-clause-answer g c =
    let bytes = (g.R.Source.contents c.args.source.now).bytes in
    let p = view.page c.args.self.now.format.page.now in
    let rl : c.loop-row.row < c.args.band.to = omega (arith, c.loop-row-test.true) in
    let below : c.loop-row.row < (rect p c.args.self.now.index).height =
    omega (arith, rl, c.requires.within) in
    let given = rw (same_bytes c.loop-row.invariant.same) at c.in_err-row.ensures.row in
    let listed : c.args.self.now.index < all_chunks p =
    omega (arith, c.requires.listed, c.args.self.now.format.page.now.counted) in
    let answered =
    err_from_is_err_and c.from_residual-in_err-row.result c.from_residual-in_err-row.ensures.1 in
    rw (answered.1, answered.2) (too_short bytes c.args.self.now.format.order p c.args.self.now.format.color c.args.self.now.index (sides_of c.args.self.now.format.page.now) c.requires.read.stored listed _ _ c.loop-row.row c.args.band.to c.row_len-len.result _ c.in_err-row.field-0.0 (λ f. omega (arith, f, c.loop-row.invariant.count)) rl
    (c.row_len-len.ensures.value ∙ ap (row_bytes p c.args.self.now.format.color) c.args.self.now.wide) (c.loop-row.invariant.position below) given)

pub loop-row-preserved : goal.loop-row-preserved
loop-row-preserved g c =
    let bytes = (g.R.Source.contents c.args.source.now).bytes in
    let p = view.page c.args.self.now.format.page.now in
    let order = c.args.self.now.format.order in
    let color = c.args.self.now.format.color in
    let k = c.args.self.now.index in
    let len = row_bytes p color (rect p k).width in
    let destination = c.args.band.destination in
    let from = c.args.band.from in
    let row = c.loop-row.row in
    let at = (destination.top + (row - from)) * destination.stride + destination.left in
    let h = c.args.self.now.high in
    let w = c.args.self.now.wide in
    let n : c.row_len-len.result ≡ len = c.row_len-len.ensures.value ∙ ap (row_bytes p color) w in
    let rl : row < (rect p k).height = omega (arith, c.loop-row-test.true, c.requires.within) in
    let behind : from ≤ row = c.loop-row.auto.row in
    let same = (same_bytes c.loop-row.invariant.same) in
    let given = rw same at c.in_ok-row.ensures.row in
    let passed =
    rw (same_bytes (c.in_ok-row.ensures.kept.contents
    ∙ c.loop-row.invariant.same)) at c.in_ok-pass-2.ensures.passed in
    let listed : k < all_chunks p =
    omega (arith, c.requires.listed, c.args.self.now.format.page.now.counted) in
    let out : length given.row ≡ c.row_len-len.result = given.all in
    let sides = sides_of c.args.self.now.format.page.now in
    let stored = c.requires.read.stored in
    let wide : 0 < (rect p k).width = omega (arith, c.args.self.now.some_columns, w) in
    let some : 0 < len =
    row_some p color (rect p k).width wide c.args.self.now.format.page.now.has_bits stored.shows in
    let left = bytes_left bytes c.loop-row.cursor in
    let rest = bytes_left bytes c.row.new.cursor in
    let position = c.loop-row.invariant.position rl in
    let held =
    row_held bytes order p color k sides stored listed row left rest given.row some rl (out
    ∙ n) position given.takes in
    let now : (row + 1 - 1) * stored_row_bytes p ≡ row * stored_row_bytes p =
    ap (λ (m : ℕ). m * stored_row_bytes p) (omega arith) in
    let value = λ (r b : ℕ). chunk_byte bytes order p color k (from + r) b in
    let old = g.W.RowSink.bytes c.args.sink.now in
    let new = g.W.RowSink.bytes c.row.new.self in
    let its : row ≡ from + (row - from) = omega (arith, behind) in
    let after =
    row_put_there value destination.stride destination.top (row - from) destination.left len at given.row old (g.W.RowSink.bytes c.loop-row.sink) new
    c.requires.columns refl (out ∙ n)
    (λ b bl. row_bytes_are bytes order p color k sides stored listed row left rest given.row rl (out
    ∙ n) position given.takes b bl ∙ ap (λ (r : ℕ). chunk_byte bytes order p color k r b) its)
    c.loop-row.invariant.written given.put in
    let rows : row - from + 1 ≡ row + 1 - from = omega (arith, behind) in
    let between : row + 1 < (rect p k).height
    → c.gap_behind.result ≡ stored_row_bytes p - needed_of_row p color len = λ z.
    c.gap_behind.ensures.between (omega (arith, z, h))
    ∙ (c.gap-gap.ensures ∙ ap (λ (m : ℕ). stored_row_bytes p - needed_of_row p color m) n) in
    let last : row + 1 ≡ (rect p k).height → c.gap_behind.result ≡ 0 =
    λ z. c.gap_behind.ensures.last (omega (arith, z, h)) in
    record {
      later =
          g.met.W.RowSink.further c.args.sink.now c.loop-row.sink c.row.new.self c.loop-row.invariant.later c.in_ok-row.ensures.later;
      same =
          c.in_ok-pass-2.ensures.kept.contents
          ∙ (c.in_ok-row.ensures.kept.contents ∙ c.loop-row.invariant.same);
      count =
          omega (arith, c.in_ok-pass-2.ensures.kept.swallowed, c.in_ok-row.ensures.kept.swallowed, c.loop-row.invariant.count);
      stands =
          next_stands p color k row c.row_len-len.result c.loop-row.cursor rl n c.loop-row.invariant.stands
          c.row.new.cursor c.gap_behind.result (need_within bytes order p color k row 0 sides stored listed rl some) c.in_ok-row.ensures.moves between last c.pass-in-loop-row.new.self c.in_ok-pass-2.ensures.moves;
      position =
          λ z. next_row bytes order p color k sides stored listed row c.gap_behind.result left rest
          (bytes_left bytes c.pass-in-loop-row.new.self) given.row some z (out
          ∙ n) position given.takes (between z) passed;
      enough = λ z. omega (arith, held, now);
      written =
          subst (λ (m : ℕ). Writes (IsIn destination.stride destination.top m destination.left len) (in_rect value destination.stride destination.top destination.left) old new) rows after;
    }

pub returns-clause-ok : goal.returns-clause-ok
returns-clause-ok g c =
    let bytes = (g.R.Source.contents c.args.source.now).bytes in
    let p = view.page c.args.self.now.format.page.now in
    let color = c.args.self.now.format.color in
    let k = c.args.self.now.index in
    let len = row_bytes p color (rect p k).width in
    let destination = c.args.band.destination in
    let from = c.args.band.from in
    let e : c.loop-row.row ≡ c.args.band.to =
    omega (arith, c.loop-row-test.false, c.loop-row.auto.row-end) in
    subst (λ (m : ℕ). Writes (IsIn destination.stride destination.top (m - from) destination.left len) (in_rect (λ r b. chunk_byte bytes c.args.self.now.format.order p color k (from + r) b) destination.stride destination.top destination.left) (g.W.RowSink.bytes c.args.sink.now) (g.W.RowSink.bytes c.loop-row.sink)) e c.loop-row.invariant.written

pub returns-in_err-pass-clause-asked : goal.returns-in_err-pass-clause-asked
returns-in_err-pass-clause-asked g c =
    let p = view.page c.args.self.now.format.page.now in
    let k = c.args.self.now.index in
    let band = c.args.band in
    let n = band.from * c.stored_row_bytes.result in
    let s : n ≡ band.from * stored_row_bytes p =
    ap (λ (m : ℕ). band.from * m) c.stored_row_bytes.ensures.value in
    let x : band.from * stored_row_bytes p ≤ ((rect p k).height - 1) * stored_row_bytes p =
    mul-le-mul_right (stored_row_bytes p) (omega (arith, c.requires.some_rows, c.requires.within)) in
    let answered = err_from_is_err_and c.from_residual.result c.from_residual.ensures.1 in
    rw (answered.1, answered.2) (chunk_asked p c.args.self.now.format.color k 0 n c.cursor-cursor.result _ (g.R.Source.contents c.args.source.now) (g.R.Source.contents c.args.source.now) refl (omega (arith, s, x)) (front_stands p k 0 c.cursor-cursor.result c.cursor-cursor.ensures.readable) c.in_err-pass.ensures.asked)

pub returns-in_err-row-clause-asked : goal.returns-in_err-row-clause-asked
returns-in_err-row-clause-asked g c =
    let p = view.page c.args.self.now.format.page.now in
    let color = c.args.self.now.format.color in
    let k = c.args.self.now.index in
    let n : c.row_len-len.result ≡ row_bytes p color (rect p k).width =
    c.row_len-len.ensures.value ∙ ap (row_bytes p color) c.args.self.now.wide in
    let answered =
    err_from_is_err_and c.from_residual-in_err-row.result c.from_residual-in_err-row.ensures.1 in
    rw (answered.1, answered.2) (row_asked p color k c.loop-row.row c.row_len-len.result c.loop-row.cursor (omega (arith, c.loop-row-test.true, c.requires.within)) n c.loop-row.invariant.stands _ (g.R.Source.contents c.args.source.now) (g.R.Source.contents c.loop-row.source) c.loop-row.invariant.same c.in_err-row.ensures.asked)

pub returns-in_err-pass-2-clause-asked : goal.returns-in_err-pass-2-clause-asked
returns-in_err-pass-2-clause-asked g c =
    let p = view.page c.args.self.now.format.page.now in
    let color = c.args.self.now.format.color in
    let k = c.args.self.now.index in
    let row = c.loop-row.row in
    let len = row_bytes p color (rect p k).width in
    let h = c.args.self.now.high in
    let w = c.args.self.now.wide in
    let n : c.row_len-len.result ≡ len = c.row_len-len.ensures.value ∙ ap (row_bytes p color) w in
    let rl : row < (rect p k).height = omega (arith, c.loop-row-test.true, c.requires.within) in
    let listed : k < all_chunks p =
    omega (arith, c.requires.listed, c.args.self.now.format.page.now.counted) in
    let stored = c.requires.read.stored in
    let wide : 0 < (rect p k).width = omega (arith, c.args.self.now.some_columns, w) in
    let some : 0 < len =
    row_some p color (rect p k).width wide c.args.self.now.format.page.now.has_bits stored.shows in
    let within =
    need_within ((g.R.Source.contents c.args.source.now).bytes) c.args.self.now.format.order p color k row 0 (sides_of c.args.self.now.format.page.now) stored listed rl some in
    let between : row + 1 < (rect p k).height
    → c.gap_behind.result ≡ stored_row_bytes p - needed_of_row p color len = λ z.
    c.gap_behind.ensures.between (omega (arith, z, h))
    ∙ (c.gap-gap.ensures ∙ ap (λ (m : ℕ). stored_row_bytes p - needed_of_row p color m) n) in
    let last : row + 1 ≡ (rect p k).height → c.gap_behind.result ≡ 0 =
    λ z. c.gap_behind.ensures.last (omega (arith, z, h)) in
    let answered =
    err_from_is_err_and c.from_residual-in_err-pass-2.result c.from_residual-in_err-pass-2.ensures.1 in
    rw (answered.1, answered.2) (behind_asked p color k row c.row_len-len.result c.loop-row.cursor rl n c.loop-row.invariant.stands c.row.new.cursor c.gap_behind.result within c.in_ok-row.ensures.moves between last
    _ (g.R.Source.contents c.args.source.now) (g.R.Source.contents c.row.new.source) (c.in_ok-row.ensures.kept.contents ∙ c.loop-row.invariant.same) c.in_err-pass-2.ensures.asked)
