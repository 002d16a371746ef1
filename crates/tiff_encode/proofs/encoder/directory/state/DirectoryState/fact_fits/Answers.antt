use Rattle.std.proofs.Common.{ap, subst}
use Rattle.tiff_base.specs.Field.{AreEntries}
use Rattle.tiff_encode.proofs.encoder.directory.state.DirectoryState.fact_fits.Goals as goal

pub returns-clause-entries : goal.returns-clause-entries
returns-clause-entries c =
    subst (λ fields. AreEntries fields) (ap (λ d. d.fields) c.self.view_is) c.entries_fit.ensures
