use Rattle.std.proofs.Common.{refl, arith}
use Rattle.std.proofs.lemmas.Result.{err_from_is_err_and}
use Rattle.tiff_base.specs.lemmas.Causes.{named_cause}
use Rattle.tiff_ifd.specs.FieldValue.{field_value, stands_in_entry}
use Rattle.tiff_ifd.specs.lemmas.Unsigned.{numbers_placed, numbers_too_long}
use Rattle.tiff_ifd.specs.lemmas.Within.{numbers_answered, numbers_refused}
use Rattle.tiff_ifd.proofs.field_reader.FieldReader.read_numbers.Goals as goal

pub returns-in_default-clause-answer : goal.returns-in_default-clause-answer
returns-in_default-clause-answer g c =
    named_cause _ refl (numbers_too_long c.args.self.now.kind c.args.self.now.order (g.R.Source.contents c.args.source.now).bytes c.args.self.now.limits.now c.args.entry.now c.in_default.ensures)

pub returns-then-len-offset_len-clause-answer : goal.returns-then-len-offset_len-clause-answer
returns-then-len-offset_len-clause-answer g c =
    numbers_placed c.args.self.now.kind c.args.self.now.order (g.R.Source.contents c.args.source.now).bytes c.args.self.now.limits.now c.args.entry.now _ c.read_placed.result
    (omega arith) (omega arith) c.read_placed.ensures.answer

pub returns-in_err-read_value-clause-answer : goal.returns-in_err-read_value-clause-answer
returns-in_err-read_value-clause-answer g c =
    let answered = err_from_is_err_and c.from_residual.result c.from_residual.ensures.1 in
    rw (answered.1, answered.2) (numbers_refused (stands_in_entry c.args.self.now.kind c.args.entry.now)
    (field_value c.args.self.now.kind c.args.self.now.order (g.R.Source.contents c.args.source.now).bytes c.args.self.now.limits.now c.args.entry.now) _
    c.in_err-read_value.field-0.0 c.in_err-read_value.ensures.answer)

pub returns-clause-answer : goal.returns-clause-answer
returns-clause-answer g c =
    numbers_answered (field_value c.args.self.now.kind c.args.self.now.order (g.R.Source.contents c.args.source.now).bytes c.args.self.now.limits.now c.args.entry.now) _ _
    c.into_u64_vec.result c.in_ok-read_value.ensures.answer c.into_u64_vec.ensures
