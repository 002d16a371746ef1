use Rattle.tiff_encode.proofs.Image.Table.{Down}
use Rattle.tiff_encode.proofs.Open.SettingsLeft.{setting_left}
use Rattle.tiff_encode.proofs.encoder.image.settings.DirectoryEncoder+W+K+ImageState+T.y_resolution.Goals as goal

pub returns-clause-leaves : goal.returns-clause-leaves
returns-clause-leaves g c m s =
    setting_left (λ _. c.set_y_resolution-answer.new.image) c.set_y_resolution-answer.result c.args.self.now.encoder.now c.set_y_resolution-answer.new.self m c.fact_fits-2.ensures s c.args.self.now.state c.fact_fits.ensures (Down (c.args.value.n, c.args.value.d)) c.set_y_resolution-answer.ensures.answer
