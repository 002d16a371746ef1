use Rattle.tiff_encode.proofs.Image.Table.{Rows}
use Rattle.tiff_encode.proofs.Open.SettingsLeft.{setting_left}
use Rattle.tiff_encode.proofs.encoder.image.settings.DirectoryEncoder+W+K+ImageState+T.rows_per_strip.Goals as goal

pub returns-clause-leaves : goal.returns-clause-leaves
returns-clause-leaves g c m s =
    setting_left (λ _. c.set_rows_per_strip-answer.new.image) c.set_rows_per_strip-answer.result c.args.self.now.encoder.now c.set_rows_per_strip-answer.new.self m c.fact_fits-2.ensures s c.args.self.now.state c.fact_fits.ensures (Rows c.args.value) c.set_rows_per_strip-answer.ensures.answer
