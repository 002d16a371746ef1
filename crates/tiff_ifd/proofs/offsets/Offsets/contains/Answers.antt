use Rattle.tiff_ifd.proofs.MetAgain.{above_all}
use Rattle.tiff_ifd.proofs.offsets.Offsets.contains.Goals as goal

pub returns-then-offset-self-clause-found : goal.returns-then-offset-self-clause-found
returns-then-offset-self-clause-found c =
    above_all c.args.self.now c.self.inside.met.items c.self.inside.filed.tree.keys c.self.inside.highest c.self.inside.filed.count c.args.offset
    c.self.view_is c.self.invariant c.if-offset-self.true
