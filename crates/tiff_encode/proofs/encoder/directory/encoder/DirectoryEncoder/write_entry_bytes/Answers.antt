use Rattle.std.proofs.Common.{rules, arith}
use Rattle.tiff_encode.proofs.Joining.{entry_bytes_adds}
use Rattle.tiff_encode.specs.GivenValues.{Bytes}
use Rattle.tiff_encode.proofs.Guarding.{entry_left}
use Rattle.tiff_encode.proofs.Keeping.{failed_leaves}
use Rattle.tiff_encode.proofs.encoder.directory.encoder.DirectoryEncoder.write_entry_bytes.Goals as goal

pub returns-clause-leaves : goal.returns-clause-leaves
returns-clause-leaves g c m s =
    entry_left (Bytes c.args.field_type c.args.bytes.now) c.in_ok-entry.entry c.args.self.now.encoder.now c.place_entry_bytes.new.self m (omega arith) c.fact_fits.ensures c.in_ok-entry.ensures.answer s

pub returns-in_err-entry-clause-leaves : goal.returns-in_err-entry-clause-leaves
returns-in_err-entry-clause-leaves g c m s =
    let told =
    failed_leaves _ c.in_err-entry.field-0.0 c.args.self.now.encoder.now c.place_entry_bytes.new.self m (entry_bytes_adds c.args.field_type c.args.bytes.now c.args.self.now.encoder.now) c.in_err-entry.ensures.answer s in
    search rules
