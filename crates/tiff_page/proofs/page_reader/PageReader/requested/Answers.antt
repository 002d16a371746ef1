use Rattle.std.proofs.Common.{◌≡◌, ℕ, ◌*◌, ◌≤◌, subst, sym}
use Rattle.std.proofs.lemmas.Result.{on_ok_weaker}
use Rattle.tiff_base.specs.Answers.{Answers}
use Rattle.tiff_page.specs.declared.samples.ReadRequest.{ReadRequest}
use Rattle.tiff_page.specs.BufferPositions.{filled_to}
use Rattle.tiff_page.specs.Rect.{rect}
use Rattle.tiff_page.specs.Samples.{IsLaid, request_bytes, room_of}
use Rattle.tiff_page.specs.PageView as view
use Rattle.tiff_page.specs.lemmas.Filling.{unit_given, unit_room}
use Rattle.tiff_page.specs.lemmas.PositionLaws.{sides_of}
use Rattle.tiff_page.proofs.page_reader.PageReader.requested.Goals as goal

pub plane_chunks-requires-clause-fits : goal.plane_chunks-requires-clause-fits
plane_chunks-requires-clause-fits g c plane below formed =
    let p = c.args.self.now.page.now in
    let chunks = c.in-Chunks in
    let laid = subst (λ (r : ReadRequest). IsLaid (view.page p) r) chunks.is c.requires.laid in
    let rows : c.chunk_data_dimensions-rows.result.1 ≡ (rect (view.page p) chunks.index).height =
    λ z. (c.chunk_data_dimensions-rows.ensures.size z).1 in
    unit_room (g.R.Source.contents c.args.source.now).bytes c.args.self.now.order
    (view.page p) c.args.self.now.limits.now chunks.color (sides_of p) p.sampled p.has_bits laid.colored chunks.stride chunks.index chunks.planes laid.which
    c.chunk_data_dimensions-rows.result.1 plane rows laid.columns below formed

pub returns-in-Chunks-clause-answer : goal.returns-in-Chunks-clause-answer
returns-in-Chunks-clause-answer g c total =
    let p = c.args.self.now.page.now in
    let chunks = c.in-Chunks in
    let laid = subst (λ (r : ReadRequest). IsLaid (view.page p) r) chunks.is c.requires.laid in
    let file = (g.R.Source.contents c.args.source.now).bytes in
    let rows : c.chunk_data_dimensions-rows.result.1 ≡ (rect (view.page p) chunks.index).height =
    λ z. (c.chunk_data_dimensions-rows.ensures.size z).1 in
    let size : chunks.planes * (c.chunk_data_dimensions-rows.result.1 * chunks.stride)
    ≡ chunks.planes * ((rect (view.page p) chunks.index).height * chunks.stride) =
    λ z. chunks.planes * (rows z * chunks.stride) in
    let old = filled_to total (g.W.RowSink.bytes c.args.sink.now) in
    let new = filled_to total (g.W.RowSink.bytes c.plane_chunks.new.sink) in
    subst
    (λ (r : ReadRequest).
    g.W.RowSink.whole (room_of (view.page p) r) ≤ total
    → Answers (λ _. new) c.plane_chunks.result (request_bytes file c.args.self.now r old) (g.R.Source.failures c.args.source.now) (g.R.Source.failures c.plane_chunks.new.source))
    (sym chunks.is)
    (λ l.
    unit_given file c.args.self.now.order (view.page p) c.args.self.now.limits.now chunks.color
    (sides_of p) p.sampled p.has_bits laid.colored chunks.stride chunks.index chunks.planes laid.which
    _ c.plane_chunks.result c.chunk_data_dimensions-rows.result.1 old new rows laid.columns
    (on_ok_weaker c.plane_chunks.result (λ w. w total (subst (λ (n : ℕ). g.W.RowSink.whole n ≤ total) (sym size) l)) c.plane_chunks.ensures.ok) c.plane_chunks.ensures.answer)
