use Rattle.std.proofs.Common.{rules}
use Rattle.tiff_encode.proofs.Joining.{entry_adds}
use Rattle.tiff_encode.specs.GivenValues.{Given}
use Rattle.tiff_encode.proofs.Guarding.{entry_left}
use Rattle.tiff_encode.proofs.Keeping.{failed_leaves}
use Rattle.tiff_encode.proofs.encoder.directory.encoder.DirectoryEncoder.write_entry.Goals as goal

pub returns-clause-leaves : goal.returns-clause-leaves
returns-clause-leaves g c m s =
    entry_left (Given (g.T.TiffValue.field_data c.args.value)) c.in_ok-entry.entry c.args.self.now.encoder.now c.place_value.new.self m (g.T.TiffValue.value_type, (g.T.TiffValue.value_count c.args.value, g.met.T.TiffValue.sized c.args.value)) c.fact_fits.ensures c.in_ok-entry.ensures.answer s

pub returns-in_err-entry-clause-leaves : goal.returns-in_err-entry-clause-leaves
returns-in_err-entry-clause-leaves g c m s =
    let told =
    failed_leaves _ c.in_err-entry.field-0.0 c.args.self.now.encoder.now c.place_value.new.self m
    (entry_adds (g.T.TiffValue.field_data c.args.value) c.args.self.now.encoder.now) c.in_err-entry.ensures.answer s in
    search rules
