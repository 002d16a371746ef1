use Rattle.std.proofs.Common.{rules, length, sym, ◌∙◌}
use Rattle.tiff_base.specs.declared.tags.«Type».TheVariants.{SHORT}
use Rattle.tiff_value.specs.Data.{extras, data_of}
use Rattle.tiff_encode.proofs.Calling.{test_is}
use Rattle.tiff_encode.proofs.Settings.{extras_value}
use Rattle.tiff_encode.proofs.encoder.TiffEncoder.check_extras.Goals as goal

pub returns : goal.returns
returns g c =
    let extra = c.args.extra.now in
    sym (test_is c.args.self.now c.file_kind.result SHORT (length extra) (data_of (extras extra)) c.args.end c.count.result c.bytes.result c.file_kind.ensures (extras_value extra) c.requires c.count.ensures c.bytes.ensures)
    ∙ c.in_ok-check_field.ensures

pub returns-in_err-check_field : goal.returns-in_err-check_field
returns-in_err-check_field g c =
    let told =
    let extra = c.args.extra.now in
    sym (test_is c.args.self.now c.file_kind.result SHORT (length extra) (data_of (extras extra)) c.args.end c.count.result c.bytes.result c.file_kind.ensures (extras_value extra) c.requires c.count.ensures c.bytes.ensures)
    ∙ c.in_err-check_field.ensures in
    search rules
