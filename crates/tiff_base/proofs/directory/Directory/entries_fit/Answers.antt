use Rattle.std.proofs.Common.{subst}
use Rattle.tiff_base.specs.lemmas.Fits.{tree_fits}
use Rattle.tiff_base.proofs.directory.Directory.entries_fit.Goals as goal
use Rattle.tiff_base.specs.Field.{AreEntries, DirectoryRecord}

pub returns : goal.returns
returns c =
    subst {A = DirectoryRecord} (λ d. AreEntries d.entries) c.self.view_is (tree_fits _ c.self.invariant.1)
