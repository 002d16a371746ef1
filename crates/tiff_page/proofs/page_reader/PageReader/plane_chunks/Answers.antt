use Rattle.std.proofs.Common.{arith, Ok, Err, ◌≡◌, ℕ, List, refl, ◌∙◌, ◌+◌, ◌*◌, ◌<◌, ◌≤◌, subst, sym}
use Rattle.std.proofs.lemmas.Result.{err_from_is_err_and}
use Rattle.tiff_base.specs.Answers.{IsCause}
use Rattle.tiff_base.specs.declared.color.ColorType.{ColorType}
use Rattle.tiff_base.specs.declared.error.TiffError.TheVariants.{IoError}
use Rattle.tiff_base.specs.declared.io.IoKind.TheVariants.{UnexpectedEof}
use Rattle.tiff_base.specs.lemmas.Contents.{same_bytes}
use Rattle.tiff_ifd.specs.declared.limits.Limits.{Limits}
use Rattle.tiff_page.specs.Page.{PageRecord}
use Rattle.tiff_page.specs.PixelCalls.{chunk_part}
use Rattle.tiff_page.specs.PixelFault.{fail_if, form_fault}
use Rattle.tiff_page.specs.Pixels.{is_short}
use Rattle.tiff_page.specs.BufferPositions.{filled_to, HasRoom, WritesPlanes}
use Rattle.tiff_page.specs.Rect.{rect}
use Rattle.tiff_page.specs.PageView as view
use Rattle.tiff_page.specs.lemmas.Filling.{form_cause, rows_cause, plane_none, plane_more, plane_room}
use Rattle.tiff_page.specs.lemmas.Requests.{part_asked}
use Rattle.tiff_page.specs.lemmas.Planes.{form_read, method_passed}
use Rattle.tiff_page.proofs.Callers.{returned}
use Rattle.tiff_page.proofs.page_reader.PageReader.plane_chunks.Goals as goal

-- the index of a chunk in all planes, by equal numbers
same_place : {plane plane' count count' : ℕ} (index : ℕ) → plane ≡ plane' → count ≡ count'
    → plane * count + index ≡ plane' * count' + index
same_place index p c = λ t. p t * c t + index

-- a chunk with a right form has room in the rows of its plane
room_in_plane : (p : PageRecord) (limits : Limits) (color : ColorType) (stride rows top left : ℕ)
    (plane planes i at first : ℕ) → i ≡ at → first ≡ plane * rows + top → plane < planes
    → form_fault p limits color i ≡ Ok tt
    → (form_fault p limits color at ≡ Ok tt → HasRoom p color stride rows top left at)
    → HasRoom p color stride rows top left i
    × ((first + (rect p i).height) * stride ≤ planes * (rows * stride))
room_in_plane p limits color stride rows top left plane planes i at first q t below formed fits =
    let room : HasRoom p color stride rows top left i =
    subst (λ (m : ℕ). HasRoom p color stride rows top left m) (sym q)
    (fits (subst (λ (m : ℕ). form_fault p limits color m ≡ Ok tt) q formed)) in
    let end =
    plane_room plane planes rows top (rect p i).height stride (planes * (rows * stride)) below
    room.above (omega arith) in
    (room, subst (λ (m : ℕ). (m + (rect p i).height) * stride ≤ planes * (rows * stride)) (sym t) end)

pub returns-in_err-form_fault-clause-answer : goal.returns-in_err-form_fault-clause-answer
returns-in_err-form_fault-clause-answer g c =
    let p = c.args.self.now.page.now in
    let next = c.args.next in
    returned _ _ _ _ _ _ c.from_residual.ensures.1 (form_cause (g.R.Source.contents c.args.source.now).bytes c.args.self.now.order (view.page p) c.args.self.now.limits.now next.color next.planes next.index _ c.loop-plane.plane _ c.in_err-form_fault.field-0.0 (same_place next.index c.from.ensures c.chunks_of_plane-in_plane.ensures.count) c.loop-plane-test.true c.loop-plane.invariant.none c.in_err-form_fault.ensures.answer)

pub rows-requires : goal.rows-requires
rows-requires g c =
    let p = c.args.self.now.page.now in
    let next = c.args.next in
    let q = same_place next.index c.from.ensures c.chunks_of_plane-in_plane.ensures.count in
    let passed = c.in_ok-form_fault.ensures in
    let room =
    room_in_plane (view.page p) c.args.self.now.limits.now next.color next.first.stride next.rows next.first.top next.first.left
    c.loop-plane.plane next.planes _ _ _ q (same_place next.first.top c.from-in-loop-plane.ensures refl) c.loop-plane-test.true c.in_ok-form_fault.ensures.answer
    (c.requires.fits c.loop-plane.plane c.loop-plane-test.true) in
    record {
      read =
          form_read (view.page p) c.args.self.now.limits.now next.color _ p.sampled c.requires.colored passed.answer;
      formed = method_passed (view.page p) c.args.self.now.limits.now next.color _ passed.answer;
      listed = passed.within;
      some = room.0.some;
      columns = room.0.columns;
      room =
          omega (arith, room.1, c.requires.room, g.met.W.RowSink.room_kept c.args.sink.now c.loop-plane.sink c.loop-plane.invariant.later);
      few = omega (arith, room.1, c.requires.few);
    }

pub returns-in_err-rows-clause-answer : goal.returns-in_err-rows-clause-answer
returns-in_err-rows-clause-answer g c =
    let p = c.args.self.now.page.now in
    let next = c.args.next in
    let given =
    subst (λ (bytes : List ℕ). IsCause (Unit {0}) (g.R.Source.failures c.loop-plane.source
    < g.R.Source.failures c.rows.new.source) c.in_err-rows.field-0.0 (fail_if (is_short bytes c.args.self.now.order (view.page p) next.color (c.from.result * c.chunks_of_plane-in_plane.result + next.index)) (IoError UnexpectedEof) ≡ Err c.in_err-rows.field-0.0)) (same_bytes c.loop-plane.invariant.same) c.in_err-rows.ensures.answer in
    returned _ _ _ _ _ _ c.from_residual-in_err-rows.ensures.1 (rows_cause (g.R.Source.contents c.args.source.now).bytes c.args.self.now.order (view.page p) c.args.self.now.limits.now next.color next.planes next.index
    _ _ c.loop-plane.plane _ c.in_err-rows.field-0.0 (same_place next.index c.from.ensures c.chunks_of_plane-in_plane.ensures.count) (λ f. omega (arith, f, c.loop-plane.invariant.count)) c.loop-plane-test.true c.loop-plane.invariant.none c.in_ok-form_fault.ensures.answer given)

pub loop-plane-preserved : goal.loop-plane-preserved
loop-plane-preserved g c =
    let p = c.args.self.now.page.now in
    let next = c.args.next in
    let q = same_place next.index c.from.ensures c.chunks_of_plane-in_plane.ensures.count in
    let room =
    room_in_plane (view.page p) c.args.self.now.limits.now next.color next.first.stride next.rows next.first.top next.first.left
    c.loop-plane.plane next.planes _ _ _ q (same_place next.first.top c.from-in-loop-plane.ensures refl) c.loop-plane-test.true c.in_ok-form_fault.ensures.answer
    (c.requires.fits c.loop-plane.plane c.loop-plane-test.true) in
    let same = same_bytes c.loop-plane.invariant.same in
    let given =
    subst (λ (bytes : List ℕ). fail_if (is_short bytes c.args.self.now.order (view.page p) next.color (c.from.result * c.chunks_of_plane-in_plane.result + next.index)) (IoError UnexpectedEof) ≡ Ok tt) same c.in_ok-rows.ensures.answer in
    record {
      later =
          g.met.W.RowSink.further c.args.sink.now c.loop-plane.sink c.rows.new.sink c.loop-plane.invariant.later c.in_ok-rows.ensures.later;
      same = c.in_ok-rows.ensures.kept.contents ∙ c.loop-plane.invariant.same;
      count = omega (arith, c.in_ok-rows.ensures.kept.swallowed, c.loop-plane.invariant.count);
      none =
          plane_none (g.R.Source.contents c.args.source.now).bytes c.args.self.now.order
          (view.page p) c.args.self.now.limits.now next.color next.planes next.index c.loop-plane.plane _ q c.loop-plane.invariant.none c.in_ok-form_fault.ensures.answer given;
      written =
          λ total l. plane_more (g.R.Source.contents c.args.source.now).bytes c.args.self.now.order
          (view.page p) c.args.self.now.limits.now next.color next.planes next.index
          (g.R.Source.contents c.loop-plane.source).bytes c.loop-plane.plane _ next.first.stride next.rows next.first.top _ next.first.left
          (filled_to total (g.W.RowSink.bytes c.args.sink.now)) (filled_to total (g.W.RowSink.bytes c.loop-plane.sink)) (filled_to total (g.W.RowSink.bytes c.rows.new.sink)) same q (same_place next.first.top c.from-in-loop-plane.ensures refl)
          (c.loop-plane.invariant.written total l) (c.in_ok-rows.ensures.ok total (omega (arith, l, (g.met.W.RowSink.enough _ (next.planes * (next.rows * next.first.stride)) room.1).1)));
    }

pub returns-clause-ok : goal.returns-clause-ok
returns-clause-ok g c =
    let next = c.args.next in
    let e : c.loop-plane.plane ≡ next.planes =
    omega (arith, c.loop-plane-test.false, c.loop-plane.auto.plane-end) in
    λ total l. subst (λ (m : ℕ). WritesPlanes (g.R.Source.contents c.args.source.now).bytes c.args.self.now.order (view.page c.args.self.now.page.now) next.color next.index next.first.stride next.rows next.first.top next.first.left m (filled_to total (g.W.RowSink.bytes c.args.sink.now)) (filled_to total (g.W.RowSink.bytes c.loop-plane.sink))) e (c.loop-plane.invariant.written total l)

pub returns-in_err-rows-clause-asked : goal.returns-in_err-rows-clause-asked
returns-in_err-rows-clause-asked g c =
    let p = c.args.self.now.page.now in
    let next = c.args.next in
    let answered =
    err_from_is_err_and c.from_residual-in_err-rows.result c.from_residual-in_err-rows.ensures.1 in
    rw (answered.1, answered.2) (part_asked (view.page p) next.color (chunk_part (view.page p) next.index next.planes next.first.stride) c.loop-plane.plane 0 _ _ (g.R.Source.contents c.args.source.now) (g.R.Source.contents c.loop-plane.source) c.loop-plane.invariant.same
    (same_place next.index c.from.ensures c.chunks_of_plane-in_plane.ensures.count ∙ omega arith) c.loop-plane-test.true (omega arith) c.in_err-rows.ensures.asked)
