use Rattle.std.proofs.Common.{length, ◌-◌}
use Rattle.tiff_ifd.specs.Met.{HasFirst}
use Rattle.tiff_ifd.proofs.offsets.Filed.add_all.Given as goal

abbrev pub invariant-filing : goal.invariant-filing
invariant-filing l = HasFirst l.offsets l.self.tree.keys l.self.count

abbrev pub decreases-filing : goal.decreases-filing
decreases-filing l = length l.offsets - l.self.count
