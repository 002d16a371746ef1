use Rattle.tiff_encode.proofs.Guarding.{data_buf_leaves}
use Rattle.std.proofs.Common.{ℕ}
use Rattle.tiff_encode.proofs.encoder.directory.encoder.DirectoryEncoder.write_data_buf.Goals as goal

pub returns-clause-leaves : goal.returns-clause-leaves
returns-clause-leaves g c m s =
    let view : ℕ → ℕ =
    λ offset. offset in data_buf_leaves view c.append_buffer.result c.args.self.now.encoder.now c.append_buffer.new.self m c.args.buffer.now s c.append_buffer.ensures
