use Rattle.tiff_pages.specs.lemmas.Planned.{read_by_page}
use Rattle.tiff_pages.proofs.plan.PlanReader.read_chunk_bytes.Goals as goal

pub returns-clause-page : goal.returns-clause-page
returns-clause-page g c opened p plan =
    read_by_page _ c.read_planned.result c.args.self.now.plan.now
    (g.R.Source.contents c.args.source.now).bytes c.args.self.now.limits.now c.args.index c.args.buf.now _ _
    (g.met.R.Source.offsets c.args.source.now) c.read_planned.ensures.answer opened p plan
