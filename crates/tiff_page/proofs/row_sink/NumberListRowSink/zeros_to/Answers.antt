use Rattle.tiff_page.specs.lemmas.NumberBytes.{grown_bytes}
use Rattle.tiff_page.proofs.row_sink.NumberListRowSink.zeros_to.Goals as goal

pub returns-clause-zeros : goal.returns-clause-zeros
returns-clause-zeros g c =
    grown_bytes c.grow.result g.row.N g.T.Number.bits c.args.self.now.numbers.items c.grow.new.numbers.items c.div_ceil.result c.args.len g.met.T.Number.sized c.div_ceil.ensures c.grow.ensures
