use Rattle.std.proofs.Common.{rules, refl, ap}
use Rattle.std.proofs.lemmas.Result.{err_from_is_err_and}
use Rattle.tiff_encode.proofs.Image.Table.{Rows, row}
use Rattle.tiff_encode.proofs.Settings.{set_refused, one_fails, one_so}
use Rattle.tiff_encode.proofs.encoder.TiffEncoder.set_rows_per_strip.Goals as goal

pub returns-in_err-check_rows_per_strip-clause-answer : goal.returns-in_err-check_rows_per_strip-clause-answer
returns-in_err-check_rows_per_strip-clause-answer g c =
    search (rules, set_refused (Rows c.args.rows) c.args.image.now c.args.self.now c.in_err-check_rows_per_strip.field-0.0 c.in_err-check_rows_per_strip.ensures)

pub returns-in_err-set_tag-clause-answer : goal.returns-in_err-set_tag-clause-answer
returns-in_err-set_tag-clause-answer g c =
    let p =
    err_from_is_err_and c.from_residual-in_err-set_tag.result c.from_residual-in_err-set_tag.ensures.1 in
    rw (p.1, p.2) (one_fails (Rows c.args.rows) c.args.image.now c.args.self.now c.in_err-set_tag.field-0.0 c.set_tag.new.self refl
    c.in_ok-check_rows_per_strip.ensures.0 c.image.view_is c.in_err-set_tag.ensures.answer)

pub returns-clause-answer : goal.returns-clause-answer
returns-clause-answer g c =
    one_so (Rows c.args.rows) c.args.image.now c.args.self.now c.set_tag.new.fields _ c.set_tag.new.self refl
    c.in_ok-check_rows_per_strip.ensures.0 c.image.view_is c.in_ok-set_tag.ensures.answer
    (ap (λ x. (row (Rows c.args.rows)).image x c.set_tag.new.fields) c.image.view_is)
