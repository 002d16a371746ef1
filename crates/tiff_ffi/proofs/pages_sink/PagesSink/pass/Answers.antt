use Rattle.tiff_ffi.specs.PagesSink.{next_samples, page_samples}
use Rattle.tiff_ffi.proofs.Stored.{counted}
use Rattle.tiff_ffi.proofs.pages_sink.PagesSink.pass.Goals as goal

pub returns-clause-ok : goal.returns-clause-ok
returns-clause-ok g c =
    let s = c.args.self.now in
    counted s.around.items s.fronts.items (page_samples s) s.kept s.in_fronts s.in_around
    (next_samples s) s.count c.args.n
