use Rattle.std.proofs.Common.{ℕ, ◌∙◌, sym, subst}
use Rattle.std.specs.Prelude.{slice_index, if◌then◌else◌}
use Rattle.tiff_base.specs.SourceAndSink.{AreReadable}
use Rattle.tiff_page.specs.Methods.{data_by_method, is_packed}
use Rattle.tiff_page.proofs.chunk_rows.ChunkReader.cursor.Goals as goal

pub returns-clause-rest : goal.returns-clause-rest
returns-clause-rest c = λ file order.
    c.new.ensures.rest file
    ∙ (λ t. data_by_method file c.args.self.now.format.page.now.method (c.get.ensures t) (c.get-2.ensures t))

pub returns-clause-readable : goal.returns-clause-readable
returns-clause-readable c = λ source n r.
    let page = c.args.self.now.format.page.now in
    c.new.ensures.readable source n
    (subst (λ (count : ℕ). AreReadable source c.get.result (if is_packed page.method then
    count else n)) (sym c.get-2.ensures)
    (subst (λ (at : ℕ). AreReadable source at (if is_packed page.method then slice_index page.byte_counts c.args.self.now.index else n)) (sym c.get.ensures) r))
