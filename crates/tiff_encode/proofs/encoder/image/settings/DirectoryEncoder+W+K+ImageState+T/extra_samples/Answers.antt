use Rattle.tiff_encode.proofs.Image.Table.{Extra}
use Rattle.tiff_encode.proofs.Open.SettingsLeft.{setting_left}
use Rattle.tiff_encode.proofs.encoder.image.settings.DirectoryEncoder+W+K+ImageState+T.extra_samples.Goals as goal

pub returns-clause-leaves : goal.returns-clause-leaves
returns-clause-leaves g c m s =
    setting_left (λ _. c.set_extra_samples-answer.new.image) c.set_extra_samples-answer.result c.args.self.now.encoder.now c.set_extra_samples-answer.new.self m c.fact_fits-2.ensures s c.args.self.now.state c.fact_fits.ensures (Extra c.args.extra.now) c.set_extra_samples-answer.ensures.answer
