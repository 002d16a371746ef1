use Rattle.std.proofs.Common.{get_or}
use Rattle.tiff_base.specs.Windows.{HasWindowAt}
use Rattle.tiff_base.specs.lemmas.Seen.{no_window, read_seen}
use Rattle.tiff_base.proofs.windows.WindowSourceSource.read_at.Goals as goal

pub returns-in-Some-clause-ok : goal.returns-in-Some-clause-ok
returns-in-Some-clause-ok g c =
    let h : HasWindowAt c.args.self.now.windows.seen.windows.now c.args.at c.in-Some.i =
    (c.in-Some.ensures).has in
    read_seen g.F.SeenFile.bytes (get_or c.args.self.now.windows.seen.windows.now c.in-Some.i no_window) c.args.at c.args.buf.now c.read_of.result c.read_of.new.buf
    (c.args.self.now.of.each c.in-Some.i no_window h.within) (h.begins no_window)
    (h.ends no_window) c.read_of.ensures
