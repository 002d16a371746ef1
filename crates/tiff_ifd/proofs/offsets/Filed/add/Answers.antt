use Rattle.tiff_ifd.proofs.MetAgain.{one_filed}
use Rattle.tiff_ifd.proofs.offsets.Filed.add.Goals as goal

pub returns-clause-files : goal.returns-clause-files
returns-clause-files c =
    one_filed c.args.offsets.now c.args.self.now.tree c.insert.new.self c.args.self.now.count c.requires.files c.requires.more
    c.in_ok-insert.ensures.updates
