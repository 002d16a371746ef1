use Rattle.tiff_encode.proofs.Guarding.{data_leaves}
use Rattle.std.proofs.Common.{ℕ}
use Rattle.tiff_encode.proofs.encoder.directory.encoder.DirectoryEncoder+W+K+ImageState+T.append_data.Goals as goal

pub returns-clause-leaves : goal.returns-clause-leaves
returns-clause-leaves g c m s =
    let view : ℕ → ℕ =
    λ offset. offset in data_leaves view c.append_value.result c.args.self.now.encoder.now c.append_value.new.self m (g.V.TiffValue.field_data c.args.value) s c.append_value.ensures
