use Rattle.std.proofs.Common.{arith, Ok, Err, refl, ap, ◌≡◌, ℕ, List, ◌∙◌, ◌+◌, ◌-◌, ◌*◌, ◌<◌, ◌^◌, length, subst}
use Rattle.std.proofs.lemmas.Result.{err_from_is_err_and}
use Rattle.tiff_base.specs.Answers.{IsCause}
use Rattle.tiff_base.specs.declared.error.TiffError.TheVariants.{IoError}
use Rattle.tiff_base.specs.declared.io.IoKind.TheVariants.{UnexpectedEof}
use Rattle.tiff_base.specs.lemmas.Contents.{same_bytes}
use Rattle.tiff_base.specs.lemmas.Causes.{cause_along}
use Rattle.tiff_page.specs.PixelCalls.{image_part}
use Rattle.tiff_page.specs.PixelFault.{fail_if}
use Rattle.tiff_page.specs.BufferPositions.{Writes, IsIn, in_rect, image_byte, left_of}
use Rattle.tiff_page.specs.ChunkBands.{rows_short}
use Rattle.tiff_page.specs.Rect.{rect, across, chunks_of_plane}
use Rattle.tiff_page.specs.PageView as view
use Rattle.tiff_page.specs.declared.page.Page.{Page}
use Rattle.tiff_page.proofs.ChunkBands as bands
use Rattle.tiff_page.specs.lemmas.Filling.{one_more, first_at, stride_some}
use Rattle.tiff_page.specs.lemmas.Requests.{part_asked}
use Rattle.tiff_page.specs.lemmas.PositionLaws.{plane_few, sides_of}
use Rattle.tiff_page.proofs.page_reader.PageReader.tile_row_part.Goals as goal

-- the chunks of a plane are fewer than 2^32
pub chunks_few : (p : Page) → chunks_of_plane (view.page p) < 2 ^ 32
chunks_few p =
    plane_few p.width p.height p.chunk_width p.chunk_height p.samples
    (length p.offsets) p.planar p.sampled p.counted p.few

pub overflow_cast-index : goal.overflow_cast-index
overflow_cast-index g c =
    let p = c.args.self.now.page.now in
    let inside : c.loop-column.column < across (view.page p) =
    omega (arith, c.loop-column-test.true, c.chunks_across-column-end.ensures) in
    omega (arith, bands.its_index (g.R.Source.contents c.args.source.now).bytes c.args.self.now.order (view.page p) c.args.self.now.limits.now (view.layout c.args.part.layout) (sides_of p) p.sampled p.has_bits c.requires.tiles.laid c.args.part.first c.loop-column.column 1 c.requires.tiles.banded c.requires.tiles.chunk inside, chunks_few p)

pub overflow_add-index : goal.overflow_add-index
overflow_add-index g c =
    let p = c.args.self.now.page.now in
    let inside : c.loop-column.column < across (view.page p) =
    omega (arith, c.loop-column-test.true, c.chunks_across-column-end.ensures) in
    omega (arith, bands.its_index (g.R.Source.contents c.args.source.now).bytes c.args.self.now.order (view.page p) c.args.self.now.limits.now (view.layout c.args.part.layout) (sides_of p) p.sampled p.has_bits c.requires.tiles.laid c.args.part.first c.loop-column.column 1 c.requires.tiles.banded c.requires.tiles.chunk inside, chunks_few p)

pub image_destination-place-requires : goal.image_destination-place-requires
image_destination-place-requires g c =
    let p = c.args.self.now.page.now in
    let inside : c.loop-column.column < across (view.page p) =
    omega (arith, c.loop-column-test.true, c.chunks_across-column-end.ensures) in
    bands.its_index (g.R.Source.contents c.args.source.now).bytes c.args.self.now.order
    (view.page p) c.args.self.now.limits.now (view.layout c.args.part.layout)
    (sides_of p) p.sampled p.has_bits c.requires.tiles.laid c.args.part.first c.loop-column.column 1 c.requires.tiles.banded c.requires.tiles.chunk inside

pub separate_rows-requires : goal.separate_rows-requires
separate_rows-requires g c =
    let p = c.args.self.now.page.now in
    let part = c.args.part in
    let to = c.image_destination-place.ensures in
    let inside : c.loop-column.column < across (view.page p) =
    omega (arith, c.loop-column-test.true, c.chunks_across-column-end.ensures) in
    let end = part.top + (part.to - part.from) in
    let e : end * c.image_destination-place.result.stride ≡ end * part.layout.row_bytes =
    ap (λ (m : ℕ). end * m) to.stride in
    record {
      read =
          bands.its_read (g.R.Source.contents c.args.source.now).bytes c.args.self.now.order
          (view.page p) c.args.self.now.limits.now (view.layout c.args.part.layout)
          (sides_of p) p.sampled p.has_bits c.requires.tiles.laid c.args.part.first c.loop-column.column 1 c.requires.tiles.banded c.requires.tiles.chunk inside;
      formed =
          bands.its_method (g.R.Source.contents c.args.source.now).bytes c.args.self.now.order
          (view.page p) c.args.self.now.limits.now (view.layout c.args.part.layout)
          (sides_of p) p.sampled p.has_bits c.requires.tiles.laid c.args.part.first c.loop-column.column 1 c.requires.tiles.banded c.requires.tiles.chunk inside;
      listed =
          bands.its_place (g.R.Source.contents c.args.source.now).bytes c.args.self.now.order
          (view.page p) c.args.self.now.limits.now (view.layout c.args.part.layout)
          (sides_of p) p.sampled p.has_bits c.requires.tiles.laid c.args.part.first c.loop-column.column 1 c.requires.tiles.banded c.requires.tiles.chunk inside (length p.offsets) p.counted;
      some_rows = c.requires.tiles.some_rows;
      within =
          omega (arith, bands.its_height (g.R.Source.contents c.args.source.now).bytes c.args.self.now.order (view.page p) c.args.self.now.limits.now (view.layout c.args.part.layout) (sides_of p) p.sampled p.has_bits c.requires.tiles.laid c.args.part.first c.loop-column.column 1 c.requires.tiles.banded c.requires.tiles.chunk inside, c.requires.tiles.within);
      start =
          bands.its_start (g.R.Source.contents c.args.source.now).bytes c.args.self.now.order
          (view.page p) c.args.self.now.limits.now (view.layout c.args.part.layout)
          (sides_of p) p.sampled p.has_bits c.requires.tiles.laid c.args.part.first c.loop-column.column 1 c.requires.tiles.banded c.requires.tiles.chunk inside part.from part.to c.requires.tiles.some_rows c.requires.tiles.within;
      some =
          omega (arith, stride_some (g.R.Source.contents c.args.source.now).bytes c.args.self.now.order (view.page p) c.args.self.now.limits.now (view.layout c.args.part.layout) (sides_of p) p.sampled p.has_bits c.requires.tiles.laid, to.stride);
      columns =
          omega (arith, bands.its_columns (g.R.Source.contents c.args.source.now).bytes c.args.self.now.order (view.page p) c.args.self.now.limits.now (view.layout c.args.part.layout) (sides_of p) p.sampled p.has_bits c.requires.tiles.laid c.args.part.first c.loop-column.column 1 c.requires.tiles.banded c.requires.tiles.chunk inside, to.left, to.stride);
      there = omega (arith, e, c.requires.there, c.loop-column.invariant.written.0);
      few = omega (arith, e, c.requires.few);
    }

pub returns-in_err-separate_rows-clause-answer : goal.returns-in_err-separate_rows-clause-answer
returns-in_err-separate_rows-clause-answer g c =
    let p = view.page c.args.self.now.page.now in
    let order = c.args.self.now.order in
    let part = c.args.part in
    let e = c.in_err-separate_rows.field-0.0 in
    let column = c.loop-column.column in
    let inside : column < across p =
    omega (arith, c.loop-column-test.true, c.chunks_across-column-end.ensures) in
    let given =
    subst (λ (bytes : List ℕ). IsCause (Unit {0}) (g.R.Source.failures c.loop-column.source
    < g.R.Source.failures c.separate_rows.new.source) e (fail_if (rows_short bytes order p part.layout.color (part.first + column) part.to) (IoError UnexpectedEof) ≡ Err e)) (same_bytes c.loop-column.invariant.same) c.in_err-separate_rows.ensures.answer in
    let answered = err_from_is_err_and c.from_residual.result c.from_residual.ensures.1 in
    rw (answered.1, answered.2) (cause_along e (λ w. w) (λ f. omega (arith, f, c.loop-column.invariant.count))
    (λ h. first_at (λ k. fail_if (rows_short ((g.R.Source.contents c.args.source.now).bytes) order p part.layout.color (part.first + k) part.to) (IoError UnexpectedEof)) (across p) column e inside c.loop-column.invariant.none h) given)

pub returns-in_err-separate_rows-clause-asked : goal.returns-in_err-separate_rows-clause-asked
returns-in_err-separate_rows-clause-asked g c =
    let p = c.args.self.now.page.now in
    let inside : c.loop-column.column < across (view.page p) =
    omega (arith, c.loop-column-test.true, c.chunks_across-column-end.ensures) in
    let i = c.args.part.first + c.loop-column.column in
    let below =
    bands.its_index (g.R.Source.contents c.args.source.now).bytes c.args.self.now.order
    (view.page p) c.args.self.now.limits.now (view.layout c.args.part.layout)
    (sides_of p) p.sampled p.has_bits c.requires.tiles.laid c.args.part.first c.loop-column.column 1 c.requires.tiles.banded c.requires.tiles.chunk inside in
    let answered = err_from_is_err_and c.from_residual.result c.from_residual.ensures.1 in
    rw (answered.1, answered.2) (part_asked (view.page p) c.args.part.layout.color (image_part (view.page p) 1 c.args.part.layout.row_bytes) 0 i i _ (g.R.Source.contents c.args.source.now) (g.R.Source.contents c.loop-column.source) c.loop-column.invariant.same
    (omega arith) (omega arith) below c.in_err-separate_rows.ensures.asked)

pub loop-column-preserved : goal.loop-column-preserved
loop-column-preserved g c =
    let p = c.args.self.now.page.now in
    let order = c.args.self.now.order in
    let part = c.args.part in
    let color = part.layout.color in
    let stride = part.layout.row_bytes in
    let file = (g.R.Source.contents c.args.source.now).bytes in
    let column = c.loop-column.column in
    let i = part.first + column in
    let to = c.image_destination-place.result in
    let inside : column < across (view.page p) =
    omega (arith, c.loop-column-test.true, c.chunks_across-column-end.ensures) in
    let same = same_bytes c.loop-column.invariant.same in
    let top = part.top in
    let mid = g.W.RowSink.bytes c.loop-column.sink in
    let new = g.W.RowSink.bytes c.separate_rows.new.sink in
    let given =
    subst (λ (bytes : List ℕ). fail_if (rows_short bytes order (view.page p) color i part.to) (IoError UnexpectedEof) ≡ Ok tt) same c.in_ok-separate_rows.ensures.answer in
    let wrote =
    bands.rows_moved order (view.page p) color i part.from part.to mid new
    (g.R.Source.contents c.loop-column.source).bytes file
    to.stride stride top top to.left (left_of (view.page p) color stride 0 i)
    same c.image_destination-place.ensures.stride refl c.image_destination-place.ensures.left c.in_ok-separate_rows.ensures.ok in
    record {
      later =
          g.met.W.RowSink.further c.args.sink.now c.loop-column.sink c.separate_rows.new.sink c.loop-column.invariant.later c.in_ok-separate_rows.ensures.later;
      same = c.in_ok-separate_rows.ensures.kept.contents ∙ c.loop-column.invariant.same;
      count =
          omega (arith, c.in_ok-separate_rows.ensures.kept.swallowed, c.loop-column.invariant.count);
      none =
          one_more (λ k. fail_if (rows_short file order (view.page p) color (part.first
          + k) part.to) (IoError UnexpectedEof)) column c.loop-column.invariant.none given;
      written =
          bands.its_beside file order (view.page p) c.args.self.now.limits.now
          (view.layout part.layout) (sides_of p) p.sampled p.has_bits c.requires.tiles.laid part.first column 1 c.requires.tiles.banded c.requires.tiles.chunk inside
          part.from part.to top (g.W.RowSink.bytes c.args.sink.now) mid new c.requires.tiles.some_rows c.requires.tiles.within c.loop-column.invariant.written wrote;
    }

pub returns-clause-ok : goal.returns-clause-ok
returns-clause-ok g c =
    let p = c.args.self.now.page.now in
    let order = c.args.self.now.order in
    let part = c.args.part in
    let color = part.layout.color in
    let stride = part.layout.row_bytes in
    let file = (g.R.Source.contents c.args.source.now).bytes in
    let value =
    in_rect (λ r b. image_byte (view.page p) color stride file order (((rect (view.page p) part.first).y + part.from + r) * stride + b)) stride part.top 0 in
    let e : c.loop-column.column ≡ across (view.page p) =
    omega (arith, c.loop-column-test.false, c.loop-column.auto.column-end, c.chunks_across-column-end.ensures) in
    let l =
    bands.all_columns file order (view.page p) c.args.self.now.limits.now
    (view.layout part.layout) (sides_of p) p.sampled p.has_bits c.requires.tiles.laid part.first 1 c.requires.tiles.banded c.requires.tiles.chunk in
    subst (λ (m : ℕ). Writes (IsIn stride part.top (part.to - part.from) 0 m) value (g.W.RowSink.bytes c.args.sink.now) (g.W.RowSink.bytes c.loop-column.sink)) (ap (bands.edge (view.page p) color) e ∙ l) c.loop-column.invariant.written
