use Rattle.tiff_encode.proofs.Image.Table.{Planes}
use Rattle.tiff_encode.proofs.Open.SettingsLeft.{setting_left}
use Rattle.tiff_encode.proofs.encoder.image.settings.DirectoryEncoder+W+K+ImageState+T.planar.Goals as goal

pub returns-clause-leaves : goal.returns-clause-leaves
returns-clause-leaves g c m s =
    setting_left (λ _. c.set_planar-answer.new.image) c.set_planar-answer.result c.args.self.now.encoder.now c.set_planar-answer.new.self m c.fact_fits-2.ensures s c.args.self.now.state c.fact_fits.ensures Planes c.set_planar-answer.ensures.answer
