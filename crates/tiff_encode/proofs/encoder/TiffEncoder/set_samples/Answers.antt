use Rattle.std.proofs.Common.{rules}
use Rattle.tiff_encode.proofs.Endings.{bits_fail, formats_fail}
use Rattle.tiff_encode.proofs.encoder.TiffEncoder.set_samples.Goals as goal

pub returns-in_err-set_bits : goal.returns-in_err-set_bits
returns-in_err-set_bits g c =
    let told =
    bits_fail c.args.fields.now c.args.color.now.bits c.args.color.now.formats c.args.extra c.in_err-set_bits.field-0.0 c.args.self.now c.set_bits.new.self c.in_err-set_bits.ensures in
    search rules

pub returns-in_err-set_tag : goal.returns-in_err-set_tag
returns-in_err-set_tag g c =
    let told =
    formats_fail c.args.fields.now c.args.color.now.bits c.args.color.now.formats c.args.extra c.formats_with.result c.set_bits.new.fields c.in_err-set_tag.field-0.0 c.args.self.now
    c.set_bits.new.self c.set_tag.new.self c.formats_with.ensures c.in_ok-set_bits.ensures c.in_err-set_tag.ensures.answer in
    search rules
