use Rattle.std.proofs.Common.{◌≡◌, ◌<◌, true, arith, List, ℕ, Result, Err, subst}
use Rattle.std.specs.Prelude.{IsOk}
use Rattle.std.proofs.lemmas.Grind.{common_steps}
use Rattle.tiff_base.specs.declared.error.TiffError.{TiffError}
use Rattle.tiff_base.specs.Answers.{IsCause}
use Rattle.tiff_base.specs.FieldBytes.{field_bytes}
use Rattle.tiff_base.specs.SourceAndSink.{exactly_at}
use Rattle.tiff_ifd.specs.FieldValue.{is_allowed}
use Rattle.tiff_ifd.specs.lemmas.Within.{placed_cause}
use Rattle.tiff_ifd.proofs.field_reader.FieldReader.read_placed.Goals as goal

pub returns-in_err-bytes-clause-answer : goal.returns-in_err-bytes-clause-answer
unfolding field_bytes
returns-in_err-bytes-clause-answer g c =
    let bytes : List ℕ = (g.R.Source.contents c.args.source.now).bytes in
    let failed : Type 0 =
    g.R.Source.failures c.args.source.now < g.R.Source.failures c.read_bytes_at.new.source in
    let e : TiffError = c.in_err-bytes.field-0.0 in
    let elsewhere : exactly_at bytes c.offset_in-offset.result c.args.len
    ≡ field_bytes c.args.self.now.kind c.args.self.now.order bytes c.args.entry.now =
    grind (arith, common_steps) in
    let allowed : is_allowed c.args.self.now.limits.now c.args.entry.now.field_type c.args.entry.now.count ≡ true = cc in
    let read : IsCause (IsOk (field_bytes c.args.self.now.kind c.args.self.now.order bytes c.args.entry.now)) failed e (field_bytes c.args.self.now.kind c.args.self.now.order bytes c.args.entry.now ≡ Err e) =
    subst (λ (r : Result (List ℕ) TiffError). IsCause (IsOk r) failed e (r
    ≡ Err e)) elsewhere c.in_err-bytes.ensures.answer in
    let cause =
    placed_cause failed (is_allowed c.args.self.now.limits.now c.args.entry.now.field_type c.args.entry.now.count) c.args.entry.now.field_type c.args.self.now.order c.args.entry.now.count (field_bytes c.args.self.now.kind c.args.self.now.order bytes c.args.entry.now) e allowed read in
    grind (arith, common_steps, cause)
