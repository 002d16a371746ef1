use Rattle.std.proofs.Common.{rules, refl, ap}
use Rattle.tiff_encode.proofs.Image.Table.{Measure, row}
use Rattle.tiff_encode.proofs.Settings.{set_refused, one_fails, one_so}
use Rattle.tiff_encode.proofs.encoder.TiffEncoder.set_resolution_unit.Goals as goal

pub returns-in_err-check_resolution_unit-clause-answer : goal.returns-in_err-check_resolution_unit-clause-answer
returns-in_err-check_resolution_unit-clause-answer g c =
    search (rules, set_refused (Measure c.args.unit) c.args.image.now c.args.self.now c.in_err-check_resolution_unit.field-0.0 c.in_err-check_resolution_unit.ensures)

pub returns-in_err-set_tag-clause-answer : goal.returns-in_err-set_tag-clause-answer
returns-in_err-set_tag-clause-answer g c =
    search (
      rules,
      one_fails (Measure c.args.unit) c.args.image.now c.args.self.now c.in_err-set_tag.field-0.0 c.set_tag.new.self refl
          c.in_ok-check_resolution_unit.ensures c.image.view_is c.in_err-set_tag.ensures.answer,
    )

pub returns-clause-answer : goal.returns-clause-answer
returns-clause-answer g c =
    one_so (Measure c.args.unit) c.args.image.now c.args.self.now c.set_tag.new.fields _ c.set_tag.new.self refl
    c.in_ok-check_resolution_unit.ensures c.image.view_is c.in_ok-set_tag.ensures.answer
    (ap (λ x. (row (Measure c.args.unit)).image x c.set_tag.new.fields) c.image.view_is)
