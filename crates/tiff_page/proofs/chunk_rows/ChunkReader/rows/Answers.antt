use Rattle.std.proofs.Common.{arith, ◌≡◌, ℕ, ◌<◌, ◌≤◌, ◌∙◌, ◌+◌, ◌-◌, ◌*◌, ◌/◌, ◌%◌, length, refl, drop, ap, subst}
use Rattle.std.proofs.lemmas.Result.{err_from_is_err_and, on_ok_weaker}
use Rattle.tiff_base.specs.lemmas.Contents.{same_bytes}
use Rattle.tiff_page.specs.Counts.{all_chunks}
use Rattle.tiff_page.specs.Layout.{row_bytes}
use Rattle.tiff_page.specs.Pixels.{chunk_data}
use Rattle.tiff_page.specs.BufferPositions.{filled_to, Writes, IsIn, in_rect, chunk_byte}
use Rattle.tiff_page.specs.Rect.{rect}
use Rattle.tiff_page.specs.ChunkData.{bytes_left}
use Rattle.tiff_page.specs.PageView as view
use Rattle.tiff_page.specs.lemmas.Requests.{front_stands, stands_on, chunk_asked}
use Rattle.tiff_page.specs.lemmas.Bands.{rows_below, band_within, band_of_numbers, band_put, band_bytes_are, band_held, next_band, short_band}
use Rattle.tiff_page.specs.lemmas.Rects.{put_filled, rows_filled, no_row, writes_as}
use Rattle.tiff_page.specs.lemmas.PositionLaws.{sides_of}
use Rattle.tiff_page.proofs.chunk_rows.ChunkReader.rows.Goals as goal

pub loop-row-init : goal.loop-row-init
loop-row-init g c =
    let bytes = (g.R.Source.contents c.args.source.now).bytes in
    let p = view.page c.args.self.now.format.page.now in
    let none : 0 ≡ 0 * c.args.destination.stride = omega arith in
    record {
      later = g.met.W.RowSink.itself c.args.sink.now;
      within = omega arith;
      same = refl;
      count = omega arith;
      stands =
          front_stands p c.args.self.now.index (0 * c.args.destination.stride) c.cursor-cursor.result c.cursor-cursor.ensures.readable;
      position =
          c.cursor-cursor.ensures.rest bytes c.args.self.now.format.order
          ∙ ap (λ (m : ℕ). drop m (chunk_data bytes c.args.self.now.format.order p c.args.self.now.index)) none;
      enough = omega arith;
      written =
          λ total _. no_row (chunk_byte bytes c.args.self.now.format.order p c.args.self.now.format.color c.args.self.now.index) c.args.destination.stride c.args.destination.top c.args.destination.left (row_bytes p c.args.self.now.format.color (rect p c.args.self.now.index).width) (filled_to total (g.W.RowSink.bytes c.args.sink.now));
    }

pub overflow_add-at : goal.overflow_add-at
overflow_add-at g c =
    let height = (rect (view.page c.args.self.now.format.page.now) c.args.self.now.index).height in
    let f =
    rows_below c.args.destination.top height c.args.destination.stride ((c.args.destination.top
    + height) * c.args.destination.stride) c.loop-row.row c.min-more.result c.requires.some
    (omega arith) (omega (arith, c.args.self.now.high, c.loop-row-test.true, c.min-more.ensures)) in
    omega (arith, f.0, c.requires.few)

pub rows-requires : goal.rows-requires
rows-requires g c =
    let p = view.page c.args.self.now.format.page.now in
    let to = c.args.destination in
    let height = (rect p c.args.self.now.index).height in
    let more = c.min-more.result in
    let together = c.if-is_contiguous.ensures.0 refl in
    let f =
    rows_below to.top height to.stride ((to.top
    + height) * to.stride) c.loop-row.row more c.requires.some (omega arith)
    (omega (arith, c.args.self.now.high, c.loop-row-test.true, c.min-more.ensures)) in
    record {
      read = c.requires.read;
      in_place = together.shown;
      whole =
          band_of_numbers p c.args.self.now.format.color (rect p c.args.self.now.index).width more _ c.requires.read.stored (ap (λ z. more * z) together.in_buffer);
      room =
          omega (arith, f.1, g.met.W.RowSink.room_kept c.args.sink.now c.loop-row.sink c.loop-row.invariant.later, c.requires.room);
      fits = omega (arith, f.1, c.requires.few);
    }

pub returns-in_err-rows-clause-answer : goal.returns-in_err-rows-clause-answer
returns-in_err-rows-clause-answer g c =
    let bytes = (g.R.Source.contents c.args.source.now).bytes in
    let p = view.page c.args.self.now.format.page.now in
    let destination = c.args.destination in
    let row = c.loop-row.row in
    let more = c.min-more.result in
    let h = c.args.self.now.high in
    let rl : row + more ≤ (rect p c.args.self.now.index).height =
    omega (arith, h, c.loop-row-test.true, c.min-more.ensures) in
    let given = rw (same_bytes c.loop-row.invariant.same) at c.in_err-rows.ensures.row in
    let listed : c.args.self.now.index < all_chunks p =
    omega (arith, c.requires.listed, c.args.self.now.format.page.now.counted) in
    let answered = err_from_is_err_and c.from_residual.result c.from_residual.ensures.1 in
    rw (answered.1, answered.2) (short_band bytes c.args.self.now.format.order p c.args.self.now.format.color c.args.self.now.index destination.left destination.stride (sides_of c.args.self.now.format.page.now) c.requires.read.stored listed (c.if-is_contiguous.ensures.0 refl)
    _ _ row more (more * destination.stride) _ c.in_err-rows.field-0.0 (λ z. omega (arith, z, c.loop-row.invariant.count)) (omega (arith, h, c.loop-row-test.true)) rl refl c.loop-row.invariant.position given)

pub loop-row-preserved : goal.loop-row-preserved
loop-row-preserved g c =
    let bytes = (g.R.Source.contents c.args.source.now).bytes in
    let p = view.page c.args.self.now.format.page.now in
    let order = c.args.self.now.format.order in
    let color = c.args.self.now.format.color in
    let k = c.args.self.now.index in
    let destination = c.args.destination in
    let row = c.loop-row.row in
    let more = c.min-more.result in
    let at = (destination.top + row) * destination.stride in
    let rl : row + more ≤ (rect p k).height =
    omega (arith, c.args.self.now.high, c.loop-row-test.true, c.min-more.ensures) in
    let given = rw (same_bytes c.loop-row.invariant.same) at c.in_ok-rows.ensures.row in
    let listed : k < all_chunks p =
    omega (arith, c.requires.listed, c.args.self.now.format.page.now.counted) in
    let out : length given.row ≡ more * destination.stride = given.all in
    let sides = sides_of c.args.self.now.format.page.now in
    let stored = c.requires.read.stored in
    let together = (c.if-is_contiguous.ensures.0 refl) in
    let ahead = bytes_left bytes c.loop-row.cursor in
    let rest = bytes_left bytes c.rows.new.cursor in
    let from = c.loop-row.invariant.position in
    let len = row_bytes p color (rect p k).width in
    let old = g.W.RowSink.bytes c.args.sink.now in
    let mid = g.W.RowSink.bytes c.loop-row.sink in
    let new = g.W.RowSink.bytes c.rows.new.self in
    let end = (destination.top + (rect p k).height) * destination.stride in
    let below =
    rows_below destination.top (rect p k).height destination.stride end row more c.requires.some
    (omega arith) rl in
    let stop =
    g.met.W.RowSink.enough (at + more * destination.stride) end (omega (arith, below.1)) in
    record {
      later =
          g.met.W.RowSink.further c.args.sink.now c.loop-row.sink c.rows.new.self c.loop-row.invariant.later c.in_ok-rows.ensures.later;
      within = rl;
      same = c.in_ok-rows.ensures.kept.contents ∙ c.loop-row.invariant.same;
      count = omega (arith, c.in_ok-rows.ensures.kept.swallowed, c.loop-row.invariant.count);
      stands =
          stands_on p k (row * destination.stride) (more * destination.stride) ((row
          + more) * destination.stride) c.loop-row.cursor c.rows.new.cursor
          (omega arith) c.loop-row.invariant.stands c.in_ok-rows.ensures.moves;
      position =
          next_band bytes order p color k destination.left destination.stride sides stored listed together row more ahead rest given.row out from given.takes;
      enough =
          band_held bytes order p color k destination.left destination.stride sides stored listed together row more ahead rest given.row c.requires.some (omega (arith, c.loop-row-test.true, c.min-more.ensures, c.rows_at_once-most.ensures)) out from given.takes;
      written =
          λ total l. band_put (chunk_byte bytes order p color k) destination.stride destination.top row more destination.left len at given.row (filled_to total old) (filled_to total mid) (filled_to total new) c.requires.some
          together.from_edge together.in_buffer refl out
          (λ i il. band_bytes_are bytes order p color k destination.left destination.stride sides stored listed together row more i ahead rest given.row c.requires.some rl out from given.takes il)
          (c.loop-row.invariant.written total l)
          (put_filled total (g.W.RowSink.whole (at + more * destination.stride)) at given.row mid new (omega (arith, stop.1, l)) (omega (arith, stop.0, out)) given.put);
    }

pub returns-then-is_contiguous-clause-ok : goal.returns-then-is_contiguous-clause-ok
returns-then-is_contiguous-clause-ok g c =
    let bytes = (g.R.Source.contents c.args.source.now).bytes in
    let p = view.page c.args.self.now.format.page.now in
    let len = row_bytes p c.args.self.now.format.color (rect p c.args.self.now.index).width in
    let destination = c.args.destination in
    let e : c.loop-row.row ≡ (rect p c.args.self.now.index).height =
    omega (arith, c.args.self.now.high, c.loop-row-test.false, c.loop-row.invariant.within) in
    λ total l. subst (λ (m : ℕ). Writes (IsIn destination.stride destination.top m destination.left len) (in_rect (chunk_byte bytes c.args.self.now.format.order p c.args.self.now.format.color c.args.self.now.index) destination.stride destination.top destination.left) (filled_to total (g.W.RowSink.bytes c.args.sink.now)) (filled_to total (g.W.RowSink.bytes c.loop-row.sink))) e (c.loop-row.invariant.written total l)

pub returns-in_err-rows-clause-asked : goal.returns-in_err-rows-clause-asked
returns-in_err-rows-clause-asked g c =
    let p = view.page c.args.self.now.format.page.now in
    let k = c.args.self.now.index in
    let destination = c.args.destination in
    let row = c.loop-row.row in
    let more = c.min-more.result in
    let h = c.args.self.now.high in
    let rl : row + more ≤ (rect p k).height =
    omega (arith, h, c.loop-row-test.true, c.min-more.ensures) in
    let listed : k < all_chunks p =
    omega (arith, c.requires.listed, c.args.self.now.format.page.now.counted) in
    let ends =
    band_within (g.R.Source.contents c.args.source.now).bytes c.args.self.now.format.order p c.args.self.now.format.color k destination.left destination.stride (sides_of c.args.self.now.format.page.now) c.requires.read.stored listed (c.if-is_contiguous.ensures.0 refl)
    row more (omega (arith, h, c.loop-row-test.true)) rl in
    let answered = err_from_is_err_and c.from_residual.result c.from_residual.ensures.1 in
    rw (answered.1, answered.2) (chunk_asked p c.args.self.now.format.color k (row * destination.stride) (more * destination.stride) c.loop-row.cursor _ (g.R.Source.contents c.args.source.now) (g.R.Source.contents c.loop-row.source) c.loop-row.invariant.same (omega (arith, ends)) c.loop-row.invariant.stands c.in_err-rows.ensures.asked)

pub returns-clause-ok : goal.returns-clause-ok
returns-clause-ok g c =
    let p = view.page c.args.self.now.format.page.now in
    let color = c.args.self.now.format.color in
    let k = c.args.self.now.index in
    let to = c.args.destination in
    let bytes = g.W.RowSink.bytes in
    let file = (g.R.Source.contents c.args.source.now).bytes in
    let order = c.args.self.now.format.order in
    let h = (rect p k).height in
    let len = row_bytes p color (rect p k).width in
    let value = in_rect (chunk_byte file order p color k) to.stride to.top to.left in
    let read =
    in_rect (λ r b. chunk_byte file order p color k (0 + r) b) to.stride to.top to.left in
    let end = (to.top + h) * to.stride in
    let high = c.args.self.now.high in
    let old = bytes c.args.sink.now in
    let mid = bytes c.zeros_to.new.self in
    let new = bytes c.separate_rows.new.sink in
    let same : (to.top + c.args.self.now.height) * to.stride ≡ end =
    ap (λ (n : ℕ). (to.top + n) * to.stride) high in
    let rows : c.args.self.now.height - 0 ≡ h = omega (arith, high) in
    on_ok_weaker c.separate_rows.result
    (λ wrote total l.
    rows_filled to.stride to.top h to.left len (g.W.RowSink.whole end) total value old mid new c.requires.some (g.met.W.RowSink.enough end end (omega arith)).0 (c.in_ok-zeros_to.ensures.zeros ∙ ap (λ (n : ℕ). filled_to (g.W.RowSink.whole n) old) same)
    (writes_as (IsIn to.stride to.top h to.left len) read value mid new
    (λ i q. let e : 0 + (i / to.stride - to.top)
    ≡ i / to.stride - to.top = omega arith in ap (λ (r : ℕ). chunk_byte file order p color k r (i % to.stride - to.left)) e)
    (subst (λ (n : ℕ). Writes (IsIn to.stride to.top n to.left len) read mid new) rows wrote))
    l)
    c.separate_rows.ensures.ok
