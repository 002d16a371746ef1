use Rattle.std.proofs.Common.{rules, refl}
use Rattle.std.proofs.lemmas.Result.{err_from_is_err_and}
use Rattle.tiff_ifd.specs.lemmas.Begun.{ends_none}
use Rattle.tiff_ifd.proofs.Passed.{begins_passed, cut_unlinked, cut_unpassed, one_passed, refused_unlinked, refused_unpassed}
use Rattle.tiff_ifd.proofs.walk.IfdChainWalk.pass_next.Goals as goal

pub returns-in_default-clause-end : goal.returns-in_default-clause-end
returns-in_default-clause-end g c = λ _ first b.
    ends_none c.args.kind c.args.order (g.R.Source.contents c.args.source.now).bytes first c.args.self.now (search rules) b

pub returns-in_err-next-clause-err : goal.returns-in_err-next-clause-err
returns-in_err-next-clause-err g c =
    let answered = err_from_is_err_and c.from_residual.result c.from_residual.ensures.1 in
    rw (answered.1, answered.2) (refused_unlinked c.args.kind c.args.order (g.R.Source.contents c.args.source.now).bytes _ c.args.self.now c.args.self.now c.in-Some.offset
    c.in_err-next.field-0.0 (search rules) refl c.in_err-next.ensures.answer)

pub returns-in_err-next-clause-cut : goal.returns-in_err-next-clause-cut
returns-in_err-next-clause-cut g c =
    let answered = err_from_is_err_and c.from_residual.result c.from_residual.ensures.1 in
    rw (answered.1, answered.2) (cut_unlinked c.args.kind c.args.order (g.R.Source.contents c.args.source.now).bytes _ c.args.self.now c.in-Some.offset c.in_err-next.field-0.0
    (search rules) c.in_err-next.ensures.answer)

pub returns-in_err-add-clause-err : goal.returns-in_err-add-clause-err
returns-in_err-add-clause-err g c =
    let answered =
    err_from_is_err_and c.from_residual-in_err-add.result c.from_residual-in_err-add.ensures.1 in
    rw (answered.1, answered.2) (refused_unpassed c.args.kind c.args.order (g.R.Source.contents c.args.source.now).bytes _ c.args.self.now c.add.new.self c.in-Some.offset
    c.in_ok-next.next c.in_err-add.field-0.0 (search rules) c.in_ok-next.ensures.answer c.in_err-add.ensures.stays c.in_err-add.ensures.err)

pub returns-in_err-add-clause-cut : goal.returns-in_err-add-clause-cut
returns-in_err-add-clause-cut g c =
    let answered =
    err_from_is_err_and c.from_residual-in_err-add.result c.from_residual-in_err-add.ensures.1 in
    rw (answered.1, answered.2) (cut_unpassed c.args.kind c.args.order (g.R.Source.contents c.args.source.now).bytes _ c.args.self.now c.in-Some.offset c.in_ok-next.next
    c.in_err-add.field-0.0 (search rules) c.in_ok-next.ensures.answer c.in_err-add.ensures.err)

pub returns-clause-ok : goal.returns-clause-ok
returns-clause-ok g c =
    one_passed c.args.kind c.args.order (g.R.Source.contents c.args.source.now).bytes c.args.self.now c.add.new.self c.in-Some.offset c.in_ok-next.next
    (search rules) c.in_ok-next.ensures.answer c.in_ok-add.ensures.unmet c.in_ok-add.ensures.added

pub returns-clause-begins : goal.returns-clause-begins
returns-clause-begins g c = λ first b.
    begins_passed c.args.kind c.args.order (g.R.Source.contents c.args.source.now).bytes first c.args.self.now c.add.new.self c.in-Some.offset c.in_ok-next.next
    (search rules) c.in_ok-next.ensures.answer c.in_ok-add.ensures.unmet c.in_ok-add.ensures.added b
