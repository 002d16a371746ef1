use Rattle.std.proofs.Common.{arith, Ok, Err, refl, sym, ◌≡◌, ℕ, List, ◌∙◌, ◌+◌, ◌*◌, ◌<◌, ◌≤◌, subst}
use Rattle.std.proofs.lemmas.Result.{err_from_is_err_and}
use Rattle.tiff_base.specs.Answers.{IsCause}
use Rattle.tiff_base.specs.declared.error.TiffError.TheVariants.{IoError}
use Rattle.tiff_base.specs.declared.io.IoKind.TheVariants.{UnexpectedEof}
use Rattle.tiff_base.specs.lemmas.Contents.{same_bytes}
use Rattle.tiff_page.specs.Pixels.{is_short}
use Rattle.tiff_page.specs.PixelFault.{chunk_fault, each_below, fail_if}
use Rattle.tiff_page.specs.BufferPositions.{filled_to, Writes, IsBefore, WritesPlanes, image_byte}
use Rattle.tiff_page.specs.ChunkBands.{AreBanded, WritesImageRows}
use Rattle.tiff_page.specs.PixelCalls.{chunk_part}
use Rattle.tiff_page.specs.Reach.{PartReadable}
use Rattle.tiff_page.specs.Rect.{rect, across, chunks_of_plane}
use Rattle.tiff_page.specs.PageView as view
use Rattle.tiff_page.specs.lemmas.Covering.{planes_written}
use Rattle.tiff_page.proofs.ChunkBands as bands
use Rattle.tiff_page.specs.lemmas.Filling.{chunk_cause, chunk_room, color_is, image_filled, of_chunk, one_more, planes_next, size_is, stride_some}
use Rattle.tiff_page.specs.lemmas.PositionLaws.{chunks_within, parts_some, sides_of}
use Rattle.tiff_page.specs.lemmas.Requests.{image_asked}
use Rattle.tiff_page.proofs.page_reader.PageReader.image.Goals as goal

pub tile_rows_at_once-rows-requires : goal.tile_rows_at_once-rows-requires
tile_rows_at_once-rows-requires g c =
    let p = c.args.self.now.page.now in
    stride_some (g.R.Source.contents c.args.source.now).bytes c.args.self.now.order
    (view.page p) c.args.self.now.limits.now (view.layout c.args.part.layout)
    (sides_of p) p.sampled p.has_bits c.requires.laid.laid

pub returns-in_err-tile_row-clause-answer : goal.returns-in_err-tile_row-clause-answer
returns-in_err-tile_row-clause-answer g c =
    let p = c.args.self.now.page.now in
    let file = (g.R.Source.contents c.args.source.now).bytes in
    let color = c.args.part.layout.color in
    let chunk = c.loop-chunk.chunk in
    let e = c.in_err-tile_row.field-0.0 in
    let banded : AreBanded (view.page p) c.args.self.now.limits.now color c.args.part.planes chunk =
    c.if-is_banded.ensures refl in
    let inside : chunk < chunks_of_plane (view.page p) =
    omega (arith, c.loop-chunk-test.true, c.chunks_of_plane-chunks.ensures.count) in
    let last =
    bands.all_indices file c.args.self.now.order (view.page p) c.args.self.now.limits.now
    (view.layout c.args.part.layout) (sides_of p) p.sampled p.has_bits c.requires.laid.laid chunk 0 c.args.part.planes banded inside (parts_some p.width p.chunk_width p.chunk_wide p.wide) in
    let given = subst
    (λ (bytes : List ℕ).
    IsCause (Unit {0}) (g.R.Source.failures c.loop-chunk.source
    < g.R.Source.failures c.tile_row.new.source) e
    (each_below (λ column. fail_if (is_short bytes c.args.self.now.order (view.page p) color (chunk + column)) (IoError UnexpectedEof)) (across (view.page p)) ≡ Err e))
    (same_bytes c.loop-chunk.invariant.same) c.in_err-tile_row.ensures.answer in
    let answered = err_from_is_err_and c.from_residual.result c.from_residual.ensures.1 in
    λ total _. rw (answered.1, answered.2) (bands.across_cause file c.args.self.now.order (view.page p) c.args.self.now.limits.now color c.args.part.planes chunk banded
    _ _ (filled_to total (g.W.RowSink.bytes c.args.sink.now)) c.args.part.layout.row_bytes e (λ f. omega (arith, f, c.loop-chunk.invariant.count)) last c.loop-chunk.invariant.none given)

pub overflow_add-chunk : goal.overflow_add-chunk
overflow_add-chunk g c =
    let p = c.args.self.now.page.now in
    let chunk = c.loop-chunk.chunk in
    let banded : AreBanded (view.page p) c.args.self.now.limits.now c.args.part.layout.color c.args.part.planes chunk = c.if-is_banded.ensures refl in
    let inside : chunk < chunks_of_plane (view.page p) =
    omega (arith, c.loop-chunk-test.true, c.chunks_of_plane-chunks.ensures.count) in
    let last =
    bands.all_indices (g.R.Source.contents c.args.source.now).bytes c.args.self.now.order
    (view.page p) c.args.self.now.limits.now (view.layout c.args.part.layout)
    (sides_of p) p.sampled p.has_bits c.requires.laid.laid chunk 0 c.args.part.planes banded inside (parts_some p.width p.chunk_width p.chunk_wide p.wide) in
    omega (arith, last, c.chunks_across.ensures, c.chunks_of_plane-chunks.ensures.count)

pub loop-chunk-preserved-then-is_banded : goal.loop-chunk-preserved-then-is_banded
loop-chunk-preserved-then-is_banded g c =
    let p = c.args.self.now.page.now in
    let file = (g.R.Source.contents c.args.source.now).bytes in
    let order = c.args.self.now.order in
    let limits = c.args.self.now.limits.now in
    let color = c.args.part.layout.color in
    let stride = c.args.part.layout.row_bytes in
    let planes = c.args.part.planes in
    let chunk = c.loop-chunk.chunk in
    let many = across (view.page p) in
    let bytes = g.W.RowSink.bytes in
    let i = c.loop-chunk.invariant in
    let same = same_bytes i.same in
    let banded : AreBanded (view.page p) limits color planes chunk = c.if-is_banded.ensures refl in
    let inside : chunk < chunks_of_plane (view.page p) =
    omega (arith, c.loop-chunk-test.true, c.chunks_of_plane-chunks.ensures.count) in
    let some : 0 < many = parts_some p.width p.chunk_width p.chunk_wide p.wide in
    let last =
    bands.all_indices file order (view.page p) limits (view.layout c.args.part.layout)
    (sides_of p) p.sampled p.has_bits c.requires.laid.laid chunk 0 planes banded inside some in
    let rows =
    bands.its_rows file order (view.page p) limits (view.layout c.args.part.layout)
    (sides_of p) p.sampled p.has_bits c.requires.laid.laid chunk 0 planes banded inside some in
    let room =
    bands.its_room file order (view.page p) limits (view.layout c.args.part.layout)
    (sides_of p) p.sampled p.has_bits c.requires.laid.laid chunk 0 planes banded inside some in
    let e : many ≡ c.chunks_across.result = sym c.chunks_across.ensures in
    let given = subst
    (λ (contents : List ℕ). each_below (λ column. fail_if (is_short contents order (view.page p) color (chunk + column)) (IoError UnexpectedEof)) many ≡ Ok tt)
    same c.in_ok-tile_row.ensures.answer in
    let none =
    bands.none_across file order (view.page p) limits color planes chunk banded many
    (omega arith) i.none given in
    let size : 1 * c.args.part.layout.plane_stride ≤ planes * c.args.part.layout.plane_stride =
    subst (λ (n : ℕ). n * c.args.part.layout.plane_stride
    ≤ planes * c.args.part.layout.plane_stride) banded.one (omega arith) in
    let enough =
    g.met.W.RowSink.enough c.args.part.layout.plane_stride (planes * c.args.part.layout.plane_stride) (omega (arith, size)) in
    let y = (rect (view.page p) chunk).y in
    record {
      later =
          g.met.W.RowSink.further c.args.sink.now c.loop-chunk.sink c.tile_row.new.sink i.later c.in_ok-tile_row.ensures.later;
      same = c.in_ok-tile_row.ensures.kept.contents ∙ i.same;
      count = omega (arith, c.in_ok-tile_row.ensures.kept.swallowed, i.count);
      below = omega (arith, last, e);
      none =
          subst (λ (n : ℕ). each_below (of_chunk file order (view.page p) limits (view.layout c.args.part.layout) (sides_of p) p.sampled p.has_bits c.requires.laid.laid planes) (chunk + n) ≡ Ok tt) e none;
      written = λ total l.
          let old = filled_to total (bytes c.args.sink.now) in
          let mid = filled_to total (bytes c.loop-chunk.sink) in
          let new = filled_to total (bytes c.tile_row.new.sink) in
          let wrote =
          subst (λ (contents : List ℕ). WritesImageRows contents order (view.page p) color stride y (y + ((rect (view.page p) chunk).height)) mid new) same (c.in_ok-tile_row.ensures.ok total (omega (arith, l, enough.1))) in
          let before =
          subst (λ (n : ℕ). Writes (IsBefore (view.page p) color stride n chunk 0) (image_byte (view.page p) color stride file order) old mid) banded.one (i.written total l) in
          let after =
          bands.across_written (view.page p) color stride chunk (sides_of p) rows room inside banded.leftmost some file order old mid new before wrote in
          subst (λ (n : ℕ). Writes (IsBefore (view.page p) color stride planes (chunk
          + n) 0) (image_byte (view.page p) color stride file order) old new) e
          (subst (λ (n : ℕ). Writes (IsBefore (view.page p) color stride n (chunk + many) 0) (image_byte (view.page p) color stride file order) old new) (sym banded.one) after);
    }

pub image_destination-requires : goal.image_destination-requires
image_destination-requires g c =
    omega (arith, c.loop-chunk-test.true, c.chunks_of_plane-chunks.ensures.count)

pub plane_chunks-requires : goal.plane_chunks-requires
plane_chunks-requires g c =
    let p = c.args.self.now.page.now in
    let file = (g.R.Source.contents c.args.source.now).bytes in
    let order = c.args.self.now.order in
    let limits = c.args.self.now.limits.now in
    let to = c.image_destination.result in
    let at = c.image_destination.ensures in
    let inside : c.loop-chunk.chunk < chunks_of_plane (view.page p) =
    omega (arith, c.loop-chunk-test.true, c.chunks_of_plane-chunks.ensures.count) in
    let size =
    size_is file order (view.page p) limits (view.layout c.args.part.layout)
    (sides_of p) p.sampled p.has_bits c.requires.laid.laid c.args.part.planes c.loop-chunk.chunk inside
    to.stride p.height to.top to.left at.stride refl at.top at.left in
    let w =
    (chunks_within (view.page p) (0 * chunks_of_plane (view.page p)
    + c.loop-chunk.chunk) (sides_of p)).rows in
    record {
      colored =
          color_is file order (view.page p) limits (view.layout c.args.part.layout)
          (sides_of p) p.sampled p.has_bits c.requires.laid.laid;
      top = omega (arith, w, at.top);
      fits =
          λ plane below formed. chunk_room file order (view.page p) limits
          (view.layout c.args.part.layout) (sides_of p) p.sampled p.has_bits c.requires.laid.laid c.args.part.planes c.loop-chunk.chunk inside
          to.stride p.height to.top to.left at.stride refl at.top at.left plane formed;
      room =
          omega (arith, size, c.requires.room, g.met.W.RowSink.room_kept c.args.sink.now c.loop-chunk.sink c.loop-chunk.invariant.later);
      few = omega (arith, size, c.requires.few);
    }

pub returns-in_err-plane_chunks-clause-answer : goal.returns-in_err-plane_chunks-clause-answer
returns-in_err-plane_chunks-clause-answer g c =
    let p = c.args.self.now.page.now in
    let order = c.args.self.now.order in
    let limits = c.args.self.now.limits.now in
    let color = c.args.part.layout.color in
    let planes = c.args.part.planes in
    let chunk = c.loop-chunk.chunk in
    let e = c.in_err-plane_chunks.field-0.0 in
    let given = subst
    (λ (bytes : List ℕ).
    IsCause (Unit {0}) (g.R.Source.failures c.loop-chunk.source
    < g.R.Source.failures c.plane_chunks.new.source) e
    (each_below (λ plane. chunk_fault (view.page p) limits (is_short bytes order (view.page p) color) color (plane * chunks_of_plane (view.page p) + (0 + chunk))) planes ≡ Err e))
    (same_bytes c.loop-chunk.invariant.same) c.in_err-plane_chunks.ensures.answer in
    let answered =
    err_from_is_err_and c.from_residual-in_err-plane_chunks.result c.from_residual-in_err-plane_chunks.ensures.1 in
    λ total _. rw (answered.1, answered.2) (chunk_cause ((g.R.Source.contents c.args.source.now).bytes) order (view.page p) limits (view.layout c.args.part.layout) (sides_of p) p.sampled p.has_bits c.requires.laid.laid planes
    _ _ chunk (filled_to total (g.W.RowSink.bytes c.args.sink.now)) e (λ f. omega (arith, f, c.loop-chunk.invariant.count)) (omega (arith, c.loop-chunk-test.true, c.chunks_of_plane-chunks.ensures.count)) c.loop-chunk.invariant.none given)

pub loop-chunk-preserved : goal.loop-chunk-preserved
loop-chunk-preserved g c =
    let p = c.args.self.now.page.now in
    let file = (g.R.Source.contents c.args.source.now).bytes in
    let order = c.args.self.now.order in
    let limits = c.args.self.now.limits.now in
    let color = c.args.part.layout.color in
    let planes = c.args.part.planes in
    let chunk = c.loop-chunk.chunk in
    let inside : chunk < chunks_of_plane (view.page p) =
    omega (arith, c.loop-chunk-test.true, c.chunks_of_plane-chunks.ensures.count) in
    let stride = c.args.part.layout.row_bytes in
    let bytes = g.W.RowSink.bytes in
    let i = c.loop-chunk.invariant in
    let same = (same_bytes i.same) in
    let given = subst
    (λ (contents : List ℕ).
    each_below (λ plane. chunk_fault (view.page p) limits (is_short contents order (view.page p) color) color (plane * chunks_of_plane (view.page p) + (0 + chunk))) planes ≡ Ok tt)
    same c.in_ok-plane_chunks.ensures.answer in
    let size =
    size_is file order (view.page p) limits (view.layout c.args.part.layout)
    (sides_of p) p.sampled p.has_bits c.requires.laid.laid planes chunk inside
    c.image_destination.result.stride p.height c.image_destination.result.top c.image_destination.result.left c.image_destination.ensures.stride refl c.image_destination.ensures.top c.image_destination.ensures.left in
    record {
      later =
          g.met.W.RowSink.further c.args.sink.now c.loop-chunk.sink c.plane_chunks.new.sink i.later c.in_ok-plane_chunks.ensures.later;
      same = c.in_ok-plane_chunks.ensures.kept.contents ∙ i.same;
      count = omega (arith, c.in_ok-plane_chunks.ensures.kept.swallowed, i.count);
      below = omega (arith, c.loop-chunk-test.true, c.chunks_of_plane-chunks.ensures.count);
      none =
          one_more (of_chunk file order (view.page p) limits (view.layout c.args.part.layout) (sides_of p) p.sampled p.has_bits c.requires.laid.laid planes) chunk i.none given;
      written = λ total l.
          let old = filled_to total (bytes c.args.sink.now) in
          let mid = filled_to total (bytes c.loop-chunk.sink) in
          let new = filled_to total (bytes c.plane_chunks.new.sink) in
          let to = c.image_destination.result in
          let enough = subst (λ (n : ℕ). g.W.RowSink.whole n ≤ total) (sym size) l in
          let wrote =
          subst (λ (contents : List ℕ). WritesPlanes contents order (view.page p) color chunk to.stride p.height to.top to.left planes mid new) same (c.in_ok-plane_chunks.ensures.ok total enough) in
          planes_written (view.page p) color stride planes chunk (image_byte (view.page p) color stride file order) old new
          (planes_next file order (view.page p) limits (view.layout c.args.part.layout) (sides_of p) p.sampled p.has_bits c.requires.laid.laid planes chunk inside
          c.image_destination.result.stride p.height c.image_destination.result.top c.image_destination.result.left c.image_destination.ensures.stride refl c.image_destination.ensures.top c.image_destination.ensures.left given planes (omega arith) old mid new wrote (i.written total l));
    }

pub returns-clause-answer : goal.returns-clause-answer
returns-clause-answer g c = λ total l.
    let p = c.args.self.now.page.now in
    let file = (g.R.Source.contents c.args.source.now).bytes in
    let old = filled_to total (g.W.RowSink.bytes c.args.sink.now) in
    let new = filled_to total (g.W.RowSink.bytes c.loop-chunk.sink) in
    let e : c.loop-chunk.chunk ≡ chunks_of_plane (view.page p) =
    omega (arith, c.loop-chunk-test.false, c.loop-chunk.invariant.below, c.chunks_of_plane-chunks.ensures.count) in
    image_filled file c.args.self.now.order (view.page p) c.args.self.now.limits.now
    (view.layout c.args.part.layout) (sides_of p) p.sampled p.has_bits c.requires.laid.laid c.args.part.planes old new c.requires.laid.some
    (subst (λ (m : ℕ). each_below (of_chunk file c.args.self.now.order (view.page p) c.args.self.now.limits.now (view.layout c.args.part.layout) (sides_of p) p.sampled p.has_bits c.requires.laid.laid c.args.part.planes) m ≡ Ok tt) e c.loop-chunk.invariant.none)
    (subst (λ (m : ℕ). Writes (IsBefore (view.page p) c.args.part.layout.color c.args.part.layout.row_bytes c.args.part.planes m 0) (image_byte (view.page p) c.args.part.layout.color c.args.part.layout.row_bytes file c.args.self.now.order) old new) e (c.loop-chunk.invariant.written total l))

pub returns-in_err-plane_chunks-clause-asked : goal.returns-in_err-plane_chunks-clause-asked
returns-in_err-plane_chunks-clause-asked g c =
    let p = view.page c.args.self.now.page.now in
    let color = c.args.part.layout.color in
    let planes = c.args.part.planes in
    let chunk = c.loop-chunk.chunk in
    let answered =
    err_from_is_err_and c.from_residual-in_err-plane_chunks.result c.from_residual-in_err-plane_chunks.ensures.1 in
    rw (answered.1, answered.2) (image_asked p color planes c.args.part.layout.row_bytes chunk _ (g.R.Source.contents c.args.source.now) (g.R.Source.contents c.loop-chunk.source) c.loop-chunk.invariant.same
    (omega (arith, c.loop-chunk-test.true, c.chunks_of_plane-chunks.ensures.count))
    (λ r. c.in_err-plane_chunks.ensures.asked (subst (λ (n : ℕ). PartReadable (g.R.Source.contents c.loop-chunk.source) p color (chunk_part p chunk planes n)) (sym c.image_destination.ensures.stride) r)))
