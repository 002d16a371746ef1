use Rattle.std.proofs.Common.{take, ap, ◌∙◌}
use Rattle.tiff_base.proofs.Held.{held_read}
use Rattle.tiff_base.proofs.io.BufferedSource.read_held.Goals as goal

pub returns : goal.returns
returns g c =
    let s = c.args.self.now in
    held_read (g.S.Source.contents s.source).bytes (take s.held c.deref.result.now) s.from s.held c.args.at c.args.buf.now c.read_of.result c.read_of.new.buf
    (ap (take s.held) c.deref.ensures.value ∙ s.holds) c.requires c.read_of.ensures
