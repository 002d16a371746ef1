use Rattle.std.proofs.Common.{rules, ◌<◌, ◌^◌, length, arith}
use Rattle.tiff_encode.specs.JobValues.{buffer_in}
use Rattle.tiff_encode.proofs.Joining.{entry_buf_adds}
use Rattle.tiff_encode.specs.GivenValues.{Lent}
use Rattle.tiff_encode.proofs.Guarding.{entry_left}
use Rattle.tiff_encode.proofs.Keeping.{failed_leaves}
use Rattle.tiff_encode.proofs.encoder.TiffEncoder.place_job_buffer.Goals as goal

pub returns-clause-leaves : goal.returns-clause-leaves
returns-clause-leaves g c m s =
    let b = buffer_in c.args.buffer.now in
    let v = c.args.buffer.now.bytes in
    let short : length b.bytes < 2 ^ 64 = omega (arith, v.ok, v.small) in
    entry_left (Lent b) c.in_ok-entry.entry c.args.self.now c.place_ordered.new.self m short c.fact_fits.ensures
    (rw c.deref.ensures.value at c.in_ok-entry.ensures.answer) s

pub returns-in_err-entry-clause-leaves : goal.returns-in_err-entry-clause-leaves
returns-in_err-entry-clause-leaves g c m s =
    let old = c.args.self.now in
    search (
      rules,
      failed_leaves _ c.in_err-entry.field-0.0 old c.place_ordered.new.self m (entry_buf_adds (buffer_in c.args.buffer.now) old)
          (rw c.deref.ensures.value at c.in_err-entry.ensures.answer) s,
    )
