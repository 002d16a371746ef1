use Rattle.std.proofs.Common.{rules, refl, ap}
use Rattle.tiff_encode.proofs.Image.Table.{Down, row}
use Rattle.tiff_encode.proofs.Settings.{set_refused, one_fails, one_so}
use Rattle.tiff_encode.proofs.encoder.TiffEncoder.set_y_resolution.Goals as goal

pub returns-in_err-check_one_resolution-clause-answer : goal.returns-in_err-check_one_resolution-clause-answer
returns-in_err-check_one_resolution-clause-answer g c =
    search (rules, set_refused (Down (c.args.value.n, c.args.value.d)) c.args.image.now c.args.self.now c.in_err-check_one_resolution.field-0.0 c.in_err-check_one_resolution.ensures)

pub returns-in_err-set_tag-clause-answer : goal.returns-in_err-set_tag-clause-answer
returns-in_err-set_tag-clause-answer g c =
    search (
      rules,
      one_fails (Down (c.args.value.n, c.args.value.d)) c.args.image.now c.args.self.now c.in_err-set_tag.field-0.0 c.set_tag.new.self refl
          c.in_ok-check_one_resolution.ensures c.image.view_is c.in_err-set_tag.ensures.answer,
    )

pub returns-clause-answer : goal.returns-clause-answer
returns-clause-answer g c =
    one_so (Down (c.args.value.n, c.args.value.d)) c.args.image.now c.args.self.now c.set_tag.new.fields _ c.set_tag.new.self refl
    c.in_ok-check_one_resolution.ensures c.image.view_is c.in_ok-set_tag.ensures.answer
    (ap (λ x. (row (Down (c.args.value.n, c.args.value.d))).image x c.set_tag.new.fields) c.image.view_is)
