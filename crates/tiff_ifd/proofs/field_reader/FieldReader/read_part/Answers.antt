use Rattle.std.proofs.Common.{refl, arith, length}
use Rattle.std.proofs.lemmas.List.{length-take}
use Rattle.std.proofs.lemmas.Result.{err_from_is_err_and}
use Rattle.tiff_base.specs.lemmas.Causes.{named_cause}
use Rattle.tiff_ifd.proofs.Parts.{part_behind, part_read, part_refused, part_too_long}
use Rattle.tiff_ifd.proofs.field_reader.FieldReader.read_part.Goals as goal

pub returns-in_default-clause-answer : goal.returns-in_default-clause-answer
returns-in_default-clause-answer g c =
    named_cause _ refl (part_too_long c.args.self.now.kind c.args.self.now.order (g.R.Source.contents c.args.source.now).bytes c.args.entry.now (length c.args.buf.now) c.args.at c.in_default.ensures)

pub returns-then-len-at-clause-answer : goal.returns-then-len-at-clause-answer
returns-then-len-at-clause-answer g c =
    part_behind c.args.self.now.kind c.args.self.now.order (g.R.Source.contents c.args.source.now).bytes c.args.entry.now (length c.args.buf.now) c.args.at (omega arith) (omega arith)

pub returns-in_err-fill_part-clause-answer : goal.returns-in_err-fill_part-clause-answer
returns-in_err-fill_part-clause-answer g c =
    let answered = err_from_is_err_and c.from_residual.result c.from_residual.ensures.1 in
    rw (answered.1, answered.2) (part_refused c.args.self.now.kind c.args.self.now.order (g.R.Source.contents c.args.source.now).bytes c.args.entry.now (length c.args.buf.now) c.args.at _
    c.in-Some.len _ c.in_err-fill_part.field-0.0 c.in-Some.ensures.1 (omega arith) (omega arith) (omega (arith, length-take c.min-n.result c.args.buf.now)) c.in_err-fill_part.ensures.answer)

pub returns-clause-answer : goal.returns-clause-answer
returns-clause-answer g c =
    part_read c.args.self.now.kind c.args.self.now.order (g.R.Source.contents c.args.source.now).bytes c.args.entry.now (length c.args.buf.now) c.args.at
    c.in-Some.len _ c.min-n.result c.fill_part.new.buf _ c.in-Some.ensures.1 (omega arith)
    (omega arith) (omega (arith, length-take c.min-n.result c.args.buf.now))
    (omega (arith, length-take c.min-n.result c.args.buf.now)) c.in_ok-fill_part.ensures.answer
