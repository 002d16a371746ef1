use Rattle.std.proofs.Common.{rules}
use Rattle.tiff_encode.proofs.Endings.{bits_unwritten, count_unwritten}
use Rattle.tiff_encode.proofs.encoder.TiffEncoder.set_bits.Goals as goal

pub returns-in_err-set_tag : goal.returns-in_err-set_tag
returns-in_err-set_tag g c =
    let told =
    bits_unwritten c.args.fields.now c.args.color.now.bits c.bits_with.result c.args.extra c.in_err-set_tag.field-0.0 c.args.self.now c.set_tag.new.self c.bits_with.ensures c.in_err-set_tag.ensures.answer in
    search rules

pub returns-in_err-set_tag-2 : goal.returns-in_err-set_tag-2
returns-in_err-set_tag-2 g c =
    let told =
    count_unwritten c.args.fields.now c.set_tag.new.fields c.args.color.now.bits c.bits_with.result c.args.extra c.in_err-set_tag-2.field-0.0 c.args.self.now c.set_tag.new.self
    c.set_tag-2.new.self c.bits_with.ensures c.if-extra-eq0.false c.in_ok-set_tag.ensures.answer (rw c.samples.ensures.count at c.in_err-set_tag-2.ensures.answer) in
    search rules
