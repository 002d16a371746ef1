use Rattle.std.proofs.Common.{rules}
use Rattle.tiff_encode.proofs.Tagging.{next_set, next_fails, next_stops}
use Rattle.tiff_encode.proofs.encoder.TiffEncoder.set_tags.Goals as goal

pub returns-in_err-set_value-clause-answer : goal.returns-in_err-set_value-clause-answer
returns-in_err-set_value-clause-answer g c =
    let told =
    let now = c.loop-value in
    next_fails c.args.fields.now now.fields c.args.values.now c.value-item.result now.value-index c.in_err-set_value.field-0.0 c.args.self.now now.self c.set_value.new.self
    c.loop-value-test.true c.value-item.is now.invariant c.in_err-set_value.ensures.answer in
    search rules

pub returns-in_err-set_value-clause-part : goal.returns-in_err-set_value-clause-part
returns-in_err-set_value-clause-part g c =
    let told =
    let now = c.loop-value in
    next_stops c.args.fields.now now.fields c.set_value.new.fields c.args.values.now c.value-item.result now.value-index c.in_err-set_value.field-0.0 c.args.self.now now.self c.set_value.new.self
    c.loop-value-test.true c.value-item.is now.invariant c.in_err-set_value.ensures.answer c.in_err-set_value.ensures.stays in
    search rules

pub loop-value-preserved : goal.loop-value-preserved
loop-value-preserved g c =
    let now = c.loop-value in
    next_set c.args.fields.now now.fields c.set_value.new.fields c.args.values.now c.value-item.result now.value-index c.args.self.now now.self c.set_value.new.self
    c.loop-value-test.true c.value-item.is now.invariant c.in_ok-set_value.ensures.answer
