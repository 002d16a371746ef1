use Rattle.tiff_encode.specs.JobValues.{buffer_in}
use Rattle.tiff_encode.proofs.Guarding.{data_buf_leaves}
use Rattle.tiff_encode.proofs.encoder.TiffEncoder.append_job_buffer.Goals as goal

pub returns-clause-leaves : goal.returns-clause-leaves
returns-clause-leaves g c m s =
    let b = buffer_in c.args.buffer.now in
    data_buf_leaves (λ offset. offset) c.append_ordered.result c.args.self.now c.append_ordered.new.self m b s
    (rw c.deref.ensures.value at (c.append_ordered.ensures b.data_type))
