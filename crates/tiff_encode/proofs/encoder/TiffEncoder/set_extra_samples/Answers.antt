use Rattle.std.proofs.Common.{rules, refl}
use Rattle.tiff_encode.proofs.Image.Table.{Extra, row}
use Rattle.tiff_encode.proofs.Settings.{set_refused, one_fails, one_so, extra_short}
use Rattle.tiff_encode.proofs.encoder.TiffEncoder.set_extra_samples.Goals as goal

pub returns-in_err-check_extra_samples-clause-answer : goal.returns-in_err-check_extra_samples-clause-answer
returns-in_err-check_extra_samples-clause-answer g c =
    let told =
    set_refused (Extra c.args.extra.now) c.args.image.now c.args.self.now c.in_err-check_extra_samples.field-0.0 c.in_err-check_extra_samples.ensures in search rules

pub returns-in_default-clause-answer : goal.returns-in_default-clause-answer
returns-in_default-clause-answer g c =
    one_fails (Extra c.args.extra.now) c.args.image.now c.args.self.now _ c.args.self.now refl c.in_ok-check_extra_samples.ensures.0
    (refl {a = c.args.image.now}) (extra_short c.args.self.now c.args.image.now c.args.extra.now _ c.in_ok-check_extra_samples.ensures.0 refl)

pub returns-in_err-set_tag-clause-answer : goal.returns-in_err-set_tag-clause-answer
returns-in_err-set_tag-clause-answer g c =
    let told =
    one_fails (Extra c.args.extra.now) c.args.image.now c.args.self.now c.in_err-set_tag.field-0.0 c.set_tag.new.self refl
    c.in_ok-check_extra_samples.ensures.0 c.image.view_is c.in_err-set_tag.ensures.answer in
    search rules

pub returns-clause-answer : goal.returns-clause-answer
returns-clause-answer g c =
    one_so (Extra c.args.extra.now) c.args.image.now c.args.self.now c.set_tag.new.fields _ c.set_tag.new.self refl
    c.in_ok-check_extra_samples.ensures.0 c.image.view_is c.in_ok-set_tag.ensures.answer
    (λ k. (row (Extra (c.in-Ok.ensures.items k))).image (c.image.view_is k) c.set_tag.new.fields)
