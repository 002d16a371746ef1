use Rattle.std.proofs.Common.{arith, Ok, Err, ap, subst, ◌≡◌, ℕ, List, ◌∙◌, ◌+◌, ◌-◌, ◌*◌, ◌<◌, ◌≤◌}
use Rattle.std.proofs.lemmas.Result.{err_from_is_err_and}
use Rattle.std.proofs.Math.Nat.{le-mul_of_pos_right}
use Rattle.tiff_base.specs.Answers.{IsCause}
use Rattle.tiff_base.specs.lemmas.Contents.{same_bytes}
use Rattle.tiff_base.specs.lemmas.Causes.{cause_along}
use Rattle.tiff_page.specs.Layout.{row_bytes}
use Rattle.tiff_page.specs.BufferPositions.{filled_to, image_byte}
use Rattle.tiff_page.specs.ChunkBands.{AreBanded, WritesImageRows, rows_fault}
use Rattle.tiff_page.specs.Rect.{rect, across}
use Rattle.tiff_page.specs.PageView as view
use Rattle.tiff_page.proofs.ChunkBands as bands
use Rattle.tiff_page.specs.lemmas.Filling.{stride_some}
use Rattle.tiff_page.specs.lemmas.PositionLaws.{sides_of}
use Rattle.tiff_page.proofs.page_reader.PageReader.tile_row.Goals as goal

pub rows_of_piece-most-requires : goal.rows_of_piece-most-requires
rows_of_piece-most-requires g c =
    let p = c.args.self.now.page.now in
    stride_some (g.R.Source.contents c.args.source.now).bytes c.args.self.now.order
    (view.page p) c.args.self.now.limits.now (view.layout c.args.next.part.layout)
    (sides_of p) p.sampled p.has_bits c.requires.laid

pub overflow_add-rows : goal.overflow_add-rows
overflow_add-rows g c =
    let p = c.args.self.now.page.now in
    let l = c.args.next.part.layout in
    let file = (g.R.Source.contents c.args.source.now).bytes in
    let h = ap (λ r. r.height) c.rect-place.ensures.position in
    let end = (rect (view.page p) c.args.next.chunk).y + c.loop-from.from in
    let fits : end * l.row_bytes ≤ l.plane_stride =
    bands.rows_end file c.args.self.now.order (view.page p) c.args.self.now.limits.now
    (view.layout l) (sides_of p) p.sampled p.has_bits c.requires.laid c.args.next.chunk c.loop-from.from (omega (arith, h, c.loop-from.invariant.below)) in
    let k : end ≤ end * l.row_bytes =
    le-mul_of_pos_right end (stride_some file c.args.self.now.order (view.page p) c.args.self.now.limits.now (view.layout l) (sides_of p) p.sampled p.has_bits c.requires.laid) in
    omega (arith, ap (λ r. r.y) c.rect-place.ensures.position, fits, k)

pub image_rows-requires : goal.image_rows-requires
image_rows-requires g c =
    let p = c.args.self.now.page.now in
    let l = c.args.next.part.layout in
    let file = (g.R.Source.contents c.args.source.now).bytes in
    let from = c.loop-from.from in
    let to = from + c.min.result in
    let within : to ≤ (rect (view.page p) c.args.next.chunk).height =
    omega (arith, ap (λ r. r.height) c.rect-place.ensures.position, c.min.ensures, c.loop-from-test.true, c.loop-from.invariant.below) in
    let end : (rect (view.page p) c.args.next.chunk).y + to ≡ c.rect-place.result.y + from
    + (to - from) = omega (arith, ap (λ r. r.y) c.rect-place.ensures.position) in
    record {
      tiles = record {
        laid = c.requires.laid;
        banded =
            subst (λ (n : ℕ). AreBanded (view.page p) c.args.self.now.limits.now l.color n c.args.next.chunk) c.requires.banded.one c.requires.banded;
        chunk = c.requires.chunk;
        some_rows =
            omega (arith, c.rows_of_piece-most.ensures, c.min.ensures, c.loop-from-test.true);
        within = within;
      };
      top = ap (λ r. r.y + from) c.rect-place.ensures.position;
      fits =
          subst (λ (m : ℕ). m * l.row_bytes ≤ l.plane_stride) end (bands.rows_end file c.args.self.now.order (view.page p) c.args.self.now.limits.now (view.layout l) (sides_of p) p.sampled p.has_bits c.requires.laid c.args.next.chunk to within);
      room =
          omega (arith, c.requires.room, g.met.W.RowSink.room_kept c.args.sink.now c.loop-from.sink c.loop-from.invariant.later);
    }

pub returns-in_err-image_rows-clause-answer : goal.returns-in_err-image_rows-clause-answer
returns-in_err-image_rows-clause-answer g c =
    let p = c.args.self.now.page.now in
    let l = c.args.next.part.layout in
    let order = c.args.self.now.order in
    let first = c.args.next.chunk in
    let e = c.in_err-image_rows.field-0.0 in
    let file = (g.R.Source.contents c.args.source.now).bytes in
    let to = c.loop-from.from + c.min.result in
    let high =
    λ (column : ℕ) (il : column < across (view.page p)). bands.its_height file c.args.self.now.order (view.page p) c.args.self.now.limits.now (view.layout l) (sides_of p) p.sampled p.has_bits c.requires.laid first column c.args.next.part.planes c.requires.banded c.requires.chunk il in
    let inside : to ≤ (rect (view.page p) first).height =
    omega (arith, ap (λ r. r.height) c.rect-place.ensures.position, c.min.ensures, c.loop-from-test.true, c.loop-from.invariant.below) in
    let given =
    subst (λ (bytes : List ℕ). IsCause (Unit {0}) (g.R.Source.failures c.loop-from.source
    < g.R.Source.failures c.image_rows.new.source) e (rows_fault bytes order (view.page p) l.color first to ≡ Err e)) (same_bytes c.loop-from.invariant.same) c.in_err-image_rows.ensures.answer in
    let answered = err_from_is_err_and c.from_residual.result c.from_residual.ensures.1 in
    rw (answered.1, answered.2) (cause_along e (λ w. w) (λ f. omega (arith, f, c.loop-from.invariant.count)) (λ z. bands.short_rows file order (view.page p) l.color first to high inside e z) given)

pub loop-from-preserved : goal.loop-from-preserved
loop-from-preserved g c =
    let p = view.page c.args.self.now.page.now in
    let order = c.args.self.now.order in
    let color = c.args.next.part.layout.color in
    let stride = c.args.next.part.layout.row_bytes in
    let file = (g.R.Source.contents c.args.source.now).bytes in
    let first = c.args.next.chunk in
    let from = c.loop-from.from in
    let to = from + c.min.result in
    let y = (rect p first).y in
    let i = c.loop-from.invariant in
    let top : c.rect-place.result.y + from ≡ y + from =
    ap (λ r. r.y + from) c.rect-place.ensures.position in
    let end : c.rect-place.result.y + from + (to - from) ≡ y + to = omega (arith, top) in
    let same = same_bytes i.same in
    let now = c.in_ok-image_rows.ensures in
    record {
      later =
          g.met.W.RowSink.further c.args.sink.now c.loop-from.sink c.image_rows.new.sink i.later now.later;
      same = now.kept.contents ∙ i.same;
      count = omega (arith, now.kept.swallowed, i.count);
      below = omega (arith, c.min.ensures, c.loop-from-test.true, i.below);
      none =
          λ z. subst (λ (contents : List ℕ). rows_fault contents order p color first to
          ≡ Ok tt) same now.answer;
      written = λ total l.
          let mid = filled_to total (g.W.RowSink.bytes c.loop-from.sink) in
          let new = filled_to total (g.W.RowSink.bytes c.image_rows.new.sink) in
          bands.more_rows (image_byte p color stride file order) stride y (y + from) (y
          + to) (row_bytes p color p.width) (filled_to total (g.W.RowSink.bytes c.args.sink.now)) mid new (omega arith) (omega arith)
          (i.written total l)
          (subst (λ (m : ℕ). WritesImageRows file order p color stride (y + from) m mid new) end
          (subst (λ (m : ℕ). WritesImageRows file order p color stride m (c.rect-place.result.y
          + from + (to - from)) mid new) top
          (subst (λ (contents : List ℕ). WritesImageRows contents order p color stride (c.rect-place.result.y + from) (c.rect-place.result.y + from + (to - from)) mid new) same (now.ok total l))));
    }

pub returns-clause-answer : goal.returns-clause-answer
returns-clause-answer g c =
    let p = c.args.self.now.page.now in
    let l = c.args.next.part.layout in
    let first = c.args.next.chunk in
    let file = (g.R.Source.contents c.args.source.now).bytes in
    let high =
    λ (column : ℕ) (il : column < across (view.page p)). bands.its_height file c.args.self.now.order (view.page p) c.args.self.now.limits.now (view.layout l) (sides_of p) p.sampled p.has_bits c.requires.laid first column c.args.next.part.planes c.requires.banded c.requires.chunk il in
    let e : c.loop-from.from ≡ (rect (view.page p) first).height =
    omega (arith, ap (λ r. r.height) c.rect-place.ensures.position, c.loop-from-test.false, c.loop-from.invariant.below) in
    bands.rows_enough file c.args.self.now.order (view.page p) l.color first c.loop-from.from high
    (omega (arith, e)) e (c.loop-from.invariant.none (omega (arith, c.loop-from-test.false, c.rect-place.ensures.high)))

pub returns-clause-ok : goal.returns-clause-ok
returns-clause-ok g c =
    let p = view.page c.args.self.now.page.now in
    let first = c.args.next.chunk in
    let e : c.loop-from.from ≡ (rect p first).height =
    omega (arith, ap (λ r. r.height) c.rect-place.ensures.position, c.loop-from-test.false, c.loop-from.invariant.below) in
    λ total l. subst (λ (m : ℕ). WritesImageRows (g.R.Source.contents c.args.source.now).bytes c.args.self.now.order p c.args.next.part.layout.color c.args.next.part.layout.row_bytes (rect p first).y ((rect p first).y + m) (filled_to total (g.W.RowSink.bytes c.args.sink.now)) (filled_to total (g.W.RowSink.bytes c.loop-from.sink))) e
    (c.loop-from.invariant.written total l)
