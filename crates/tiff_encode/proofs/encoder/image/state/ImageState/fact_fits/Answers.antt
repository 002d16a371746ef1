use Rattle.std.proofs.Common.{ap, subst}
use Rattle.tiff_base.specs.Field.{AreEntries}
use Rattle.tiff_encode.proofs.encoder.image.state.ImageState.fact_fits.Goals as goal

pub returns : goal.returns
returns g c =
    subst (λ fields. AreEntries fields) (ap (λ i. i.directory.fields) c.self.view_is) c.fact_fits.ensures.entries
