use Rattle.std.proofs.Common.{◌<◌, rules, arith}
use Rattle.tiff_base.specs.lemmas.Contents.{same_bytes}
use Rattle.tiff_base.specs.Header.{Header}
use Rattle.tiff_decode.proofs.Opening.{unentered, first_entered}
use Rattle.tiff_decode.proofs.decoder.read_first_directory.Goals as goal

pub returns-in-Some-clause-answer : goal.returns-in-Some-clause-answer
returns-in-Some-clause-answer g c =
    let header : Header =
    record { order = c.in_ok-header.header.order; kind = c.in_ok-header.header.kind; first = c.in_ok-header.header.first } in
    first_entered (g.R.Source.contents c.args.source.now).bytes _ header c.new-walk.result c.enter_next.new.self c.in-Some.directory
    (same_bytes c.in_ok-header.ensures.kept.contents) c.in_ok-header.ensures.answer c.new-walk.ensures.walked (rw c.in-Some.is at c.in_ok-directory.ensures.ok)

pub returns-in_err-directory-clause-answer : goal.returns-in_err-directory-clause-answer
returns-in_err-directory-clause-answer g c =
    let header : Header =
    record { order = c.in_ok-header.header.order; kind = c.in_ok-header.header.kind; first = c.in_ok-header.header.first } in
    let told =
    unentered (g.R.Source.failures c.read_header.new.source
    < g.R.Source.failures c.enter_next.new.source)
    (g.R.Source.failures c.args.source.now < g.R.Source.failures c.enter_next.new.source)
    (g.R.Source.contents c.args.source.now).bytes _ header c.new-walk.result c.enter_next.new.self c.in_err-directory.field-0.0
    (λ grew. omega (arith, c.in_ok-header.ensures.kept.failures, grew))
    (same_bytes c.in_ok-header.ensures.kept.contents) c.in_ok-header.ensures.answer c.new-walk.ensures.walked c.in_err-directory.ensures.err in search rules
