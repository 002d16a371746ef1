use Rattle.std.proofs.Common.{length, map}
use Rattle.tiff_base.specs.Types.{type_size}
use Rattle.tiff_value.specs.ColorType.{sample_number}
use Rattle.tiff_encode.specs.Causes.{write_strip_cause}
use Rattle.tiff_encode.proofs.Data.Strips.{strip_left}
use Rattle.tiff_encode.proofs.encoder.image.encoder.DirectoryEncoder+W+K+ImageState+T.write_strip.Goals as goal

pub returns-clause-leaves : goal.returns-clause-leaves
returns-clause-leaves g c m s =
    strip_left c.args.self.now.state (map (sample_number (type_size g.T.TiffValue.value_type) g.T.Sample.bits) c.args.samples.now) c.args.self.now.encoder.now c.store_strip-done.new.self c.store_strip-done.new.image m
    (write_strip_cause c.args.self.now.encoder.now c.args.self.now.state (length c.args.samples.now) 0) c.store_strip-done.result c.fact_fits.ensures c.fact_short.ensures s c.store_strip-done.ensures
