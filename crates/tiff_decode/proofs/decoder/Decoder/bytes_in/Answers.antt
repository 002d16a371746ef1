use Rattle.std.proofs.Common.{◌≡◌, ◌<◌, Some, Err, Bor, option_map, subst, sym}
use Rattle.std.proofs.lemmas.Result.{err_from_is_err_and}
use Rattle.tiff_base.specs.Answers.{IsCause}
use Rattle.tiff_base.specs.Field.{DirectoryRecord}
use Rattle.tiff_decode.specs.Machine.{Decoding, from_fields}
use Rattle.tiff_decode.specs.Outcome.{find_entry, find_tag_bytes}
use Rattle.tiff_decode.specs.Reader.{reader_of}
use Rattle.tiff_decode.proofs.Refusing.{tag_asked}
use Rattle.tiff_decode.proofs.TagBytes.{part_refused}
use Rattle.tiff_decode.proofs.decoder.Decoder.bytes_in.Goals as goal

pub returns-in_err-n-clause-answer : goal.returns-in_err-n-clause-answer
returns-in_err-n-clause-answer g c =
    let s = c.self.inside in
    let d = from_fields g.R.Source.contents g.R.Source.failures s.tags s.first s.standing.pointer s.standing.more s.page s.offset in
    let other = option_map (λ (x : Bor DirectoryRecord). x.now) c.args.other in
    let answered = err_from_is_err_and c.from_residual.result c.from_residual.ensures.1 in
    let has =
    subst (λ (x : Decoding). find_entry (reader_of x other) c.args.tag
    ≡ Some c.in-Some.entry) (sym c.self.view_is) (sym c.in-Some.ensures) in
    rw (answered.1, answered.2)
    (subst (λ (x : Decoding). IsCause ⊥ (x.failures
    < g.R.Source.failures c.read_part.new.source) c.in_err-n.field-0.0
    ((find_tag_bytes (reader_of x other) c.args.tag c.args.buf.now c.args.at).answer ≡ Err c.in_err-n.field-0.0)) c.self.view_is
    (part_refused (reader_of d other) c.args.tag c.args.buf.now c.args.at _ c.in-Some.entry c.in_err-n.field-0.0 has c.in_err-n.ensures.answer))

pub returns-in_err-n-clause-asked : goal.returns-in_err-n-clause-asked
returns-in_err-n-clause-asked g c =
    let s = c.self.inside in
    let d = from_fields g.R.Source.contents g.R.Source.failures s.tags s.first s.standing.pointer s.standing.more s.page s.offset in
    let answered = err_from_is_err_and c.from_residual.result c.from_residual.ensures.1 in
    rw (answered.1, answered.2) (tag_asked d _ (option_map (λ (x : Bor DirectoryRecord). x.now) c.args.other) c.args.tag c.in-Some.entry c.in_err-n.field-0.0 c.self.view_is (sym c.in-Some.ensures) c.in_err-n.ensures.asked)
