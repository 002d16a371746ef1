use Rattle.std.proofs.Common.{refl}
use Rattle.tiff_decode.specs.Outcome.{read_image}
use Rattle.tiff_decode.proofs.Refusing.{refused_here}
use Rattle.tiff_decode.proofs.decoder.Decoder.read_image.Goals as goal

pub returns-in_err-samples-clause-follows : goal.returns-in_err-samples-clause-follows
unfolding read_image
returns-in_err-samples-clause-follows g c =
    refused_here _ _ c.in_err-samples.field-0.0 read_image _ _ _ (g.R.Source.contents c.read_image.new.source) (g.R.Source.failures c.read_image.new.source)
    c.from_residual.ensures.1 c.self.view_is refl c.in_err-samples.ensures.kept.contents c.in_err-samples.ensures.kept.failures c.in_err-samples.ensures.kept.swallowed c.in_err-samples.ensures.answer
