use Rattle.std.proofs.Common.{rules}
use Rattle.tiff_encode.proofs.Joining.{entry_buf_adds}
use Rattle.tiff_encode.specs.GivenValues.{Lent}
use Rattle.tiff_encode.proofs.Guarding.{entry_left}
use Rattle.tiff_encode.proofs.Keeping.{failed_leaves}
use Rattle.tiff_encode.proofs.encoder.directory.encoder.DirectoryEncoder.write_entry_buf.Goals as goal

pub returns-clause-leaves : goal.returns-clause-leaves
returns-clause-leaves g c m s =
    entry_left (Lent c.args.buffer.now) c.in_ok-entry.entry c.args.self.now.encoder.now c.place_buffer.new.self m c.fits_short.ensures c.fact_fits.ensures c.in_ok-entry.ensures.answer s

pub returns-in_err-entry-clause-leaves : goal.returns-in_err-entry-clause-leaves
returns-in_err-entry-clause-leaves g c m s =
    let told =
    failed_leaves _ c.in_err-entry.field-0.0 c.args.self.now.encoder.now c.place_buffer.new.self m
    (entry_buf_adds c.args.buffer.now c.args.self.now.encoder.now) c.in_err-entry.ensures.answer s in
    search rules
