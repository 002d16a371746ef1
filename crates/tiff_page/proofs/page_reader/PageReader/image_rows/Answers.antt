use Rattle.std.proofs.Common.{rules, arith, ap, sym, ◌≡◌, ℕ, List, ◌∙◌, ◌+◌, ◌-◌, ◌*◌, ◌≤◌, length, subst}
use Rattle.std.proofs.Math.Nat.{le-mul_of_pos_right}
use Rattle.tiff_page.specs.Layout.{row_bytes}
use Rattle.tiff_page.specs.BufferPositions.{filled_to, image_byte, IsIn, Writes}
use Rattle.tiff_page.specs.ChunkBands.{AreImageRows, PutsImageRows}
use Rattle.tiff_page.specs.Rect.{rect}
use Rattle.tiff_page.specs.PageView as view
use Rattle.tiff_page.proofs.ChunkBands as bands
use Rattle.tiff_page.specs.lemmas.Rects.{put_filled, rows_filled}
use Rattle.tiff_page.specs.lemmas.Filling.{row_is, stride_some}
use Rattle.tiff_page.specs.lemmas.PositionLaws.{sides_of}
use Rattle.tiff_page.proofs.page_reader.PageReader.image_rows.Goals as goal

-- the bytes of the rows above, and those of the rows
rows_split : (top count stride : ℕ) → (top + count) * stride ≡ top * stride + count * stride
rows_split top count stride = omega arith

pub overflow_add-end : goal.overflow_add-end
overflow_add-end g c =
    let p = c.args.self.now.page.now in
    let part = c.args.part in
    let some : part.top + (part.to - part.from)
    ≤ (part.top + (part.to - part.from)) * part.layout.row_bytes =
    le-mul_of_pos_right (part.top + (part.to - part.from)) (stride_some (g.R.Source.contents c.args.source.now).bytes c.args.self.now.order (view.page p) c.args.self.now.limits.now (view.layout part.layout) (sides_of p) p.sampled p.has_bits c.requires.tiles.laid) in
    omega (arith, c.requires.fits, some)

pub overflow_mul-len : goal.overflow_mul-len
overflow_mul-len g c =
    let part = c.args.part in
    omega (arith, c.requires.fits, rows_split part.top (part.to - part.from) part.layout.row_bytes)

pub overflow_mul-at : goal.overflow_mul-at
overflow_mul-at g c =
    let part = c.args.part in
    omega (arith, c.requires.fits, rows_split part.top (part.to - part.from) part.layout.row_bytes)

pub place-requires : goal.place-requires
place-requires g c =
    let part = c.args.part in
    let split = rows_split part.top (part.to - part.from) part.layout.row_bytes in
    let n = ap (λ (xs : List ℕ). length xs) c.deref.ensures.value in
    let room_len : length c.resize.new.self.items
    ≡ (part.to - part.from) * part.layout.row_bytes = search rules in
    let all : length c.tile_row_part.new.sink.bytes.items
    ≡ (part.to - part.from) * part.layout.row_bytes =
    omega (arith, c.in_ok-tile_row_part.ensures.ok.0, room_len) in
    record { room = omega (arith, c.requires.fits, split, all, n, c.requires.room); fits = omega (arith, c.requires.fits, split, all, n) }

pub returns-then-uses_scratch-clause-ok : goal.returns-then-uses_scratch-clause-ok
returns-then-uses_scratch-clause-ok g c =
    let p = c.args.self.now.page.now in
    let part = c.args.part in
    let file = (g.R.Source.contents c.args.source.now).bytes in
    let order = c.args.self.now.order in
    let color = part.layout.color in
    let stride = part.layout.row_bytes in
    let old = g.W.RowSink.bytes c.args.sink.now in
    let new = g.W.RowSink.bytes c.place.new.self in
    let value = image_byte (view.page p) color stride file order in
    let rows = c.deref.result.now in
    let count = part.to - part.from in
    let at = part.top * stride in
    let some =
    stride_some (g.R.Source.contents c.args.source.now).bytes c.args.self.now.order
    (view.page p) c.args.self.now.limits.now (view.layout part.layout)
    (sides_of p) p.sampled p.has_bits c.requires.tiles.laid in
    let row =
    row_is (g.R.Source.contents c.args.source.now).bytes c.args.self.now.order
    (view.page p) c.args.self.now.limits.now (view.layout part.layout)
    (sides_of p) p.sampled p.has_bits c.requires.tiles.laid in
    let split = rows_split part.top count stride in
    let room_len : length c.resize.new.self.items ≡ count * stride = search rules in
    let all : length c.tile_row_part.new.sink.bytes.items ≡ count * stride =
    omega (arith, c.in_ok-tile_row_part.ensures.ok.0, room_len) in
    let len : length rows ≡ count * stride =
    ap (λ (xs : List ℕ). length xs) c.deref.ensures.value ∙ all in
    let alone =
    bands.rows_alone file order (view.page p) color stride ((rect (view.page p) part.first).y
    + part.from) count c.resize.new.self.items c.tile_row_part.new.sink.bytes.items some row room_len c.in_ok-tile_row_part.ensures.ok in
    let is =
    subst (AreImageRows file order (view.page p) color stride part.top) (sym c.deref.ensures.value)
    (subst (λ (m : ℕ). AreImageRows file order (view.page p) color stride m c.tile_row_part.new.sink.bytes.items) (sym c.requires.top) alone) in
    let enough =
    g.met.W.RowSink.enough (at + length rows) part.layout.plane_stride
    (omega (arith, c.requires.fits, split, len)) in
    let high : count ≡ part.top + count - part.top = omega arith in
    λ total k.
    let put_there =
    put_filled total (g.W.RowSink.whole (at + length rows)) at rows old new
    (omega (arith, enough.1, k)) enough.0 c.in_ok-place.ensures.placed in
    let wrote =
    bands.rows_put value stride part.top count rows (filled_to total old)
    (filled_to total new) some len is put_there in
    subst (λ (m : ℕ). Writes (IsIn stride part.top m 0 (row_bytes (view.page p) color p.width)) value (filled_to total old) (filled_to total new)) high
    (subst (λ (m : ℕ). Writes (IsIn stride part.top count 0 m) value (filled_to total old) (filled_to total new)) row wrote)

pub returns-clause-ok : goal.returns-clause-ok
returns-clause-ok g c =
    let p = c.args.self.now.page.now in
    let part = c.args.part in
    let file = (g.R.Source.contents c.args.source.now).bytes in
    let order = c.args.self.now.order in
    let color = part.layout.color in
    let stride = part.layout.row_bytes in
    let bytes = g.W.RowSink.bytes in
    let old = bytes c.args.sink.now in
    let mid = bytes c.zeros_to.new.self in
    let new = bytes c.tile_row_part-2.new.sink in
    let value = image_byte (view.page p) color stride file order in
    let count = part.to - part.from in
    let end = (part.top + count) * stride in
    let high : count ≡ part.top + count - part.top = omega arith in
    let put =
    subst (λ (m : ℕ). PutsImageRows file order (view.page p) color stride part.top m part.top mid new) high
    (subst (λ (m : ℕ). PutsImageRows file order (view.page p) color stride m count part.top mid new) (sym c.requires.top) c.in_ok-tile_row_part-2.ensures.ok) in
    let some =
    stride_some (g.R.Source.contents c.args.source.now).bytes c.args.self.now.order
    (view.page p) c.args.self.now.limits.now (view.layout part.layout)
    (sides_of p) p.sampled p.has_bits c.requires.tiles.laid in
    let wrote =
    bands.rows_in_place file order (view.page p) color stride part.top (part.top
    + count) mid new some put in
    let enough = g.met.W.RowSink.enough end part.layout.plane_stride c.requires.fits in
    let last : (part.top + (part.top + count - part.top)) * stride ≡ end =
    ap (λ (m : ℕ). m * stride) (omega arith) in
    λ total k.
    rows_filled stride part.top (part.top + count - part.top) 0 (row_bytes (view.page p) color p.width) (g.W.RowSink.whole end) total value old mid new some (omega (arith, last, enough.0)) c.in_ok-zeros_to.ensures.zeros wrote (omega (arith, enough.1, k))
