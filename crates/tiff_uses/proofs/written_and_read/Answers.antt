use Rattle.std.proofs.Common.{◌≡◌, ◌<◌, length, map, Result, Ok, Err, IfOk, ap, sym, subst, refl, ◌∙◌, arith, rules}
use Rattle.tiff_base.specs.declared.tags.«Type».{«Type»}
use Rattle.tiff_base.specs.declared.error.TiffError.{TiffError}
use Rattle.tiff_decode.specs.declared.result.DecodingResult.{DecodingResult}
use Rattle.tiff_decode.specs.Result.{decoded_as}
use Rattle.tiff.specs.lemmas.MemoryFaults.{only_memory}
use Rattle.tiff.specs.Model.{IsLink, FileContains, header_model}
use Rattle.tiff_base.specs.declared.tags.FileKind.TheVariants.{Classic}
use Rattle.tiff_base.specs.Types.{type_size}
use Rattle.tiff_value.specs.ColorType.{columns_of, sample_number}
use Rattle.tiff_value.specs.Model.{header_link}
use Rattle.tiff.specs.lemmas.Samples.{are_numbers}
use Rattle.tiff.proofs.Gray.{header_chain}
use Rattle.tiff_uses.specs.ReadBack.{ComesBack}
use Rattle.tiff_uses.proofs.GrayFile.{alone}
use Rattle.tiff_uses.proofs.ReadBack.{all_come_back, written_read, written_refused}
use Rattle.tiff_uses.proofs.written_and_read.Goals as goal

pub returns-clause-comes_back : goal.returns-clause-comes_back
returns-clause-comes_back g c =
    let encoder = c.in_ok-encoder.encoder in
    let empty = c.new-2.ensures ∙ c.new.ensures.items in
    let header = c.in_ok-encoder.ensures.leaves empty in
    let is = c.in_ok-encoder.ensures.answer in
    let kind = sym (ap (λ e. e.kind) is) in
    let m = header_model Classic in
    let image =
    c.in_ok-written.ensures.leaves m (subst (λ k. FileContains k encoder.bytes m) kind header.stands) (subst (λ k. IsLink k m encoder.chain) kind header.link) in
    let file = c.into_vec-bytes.ensures ∙ c.into_inner.ensures.bytes in
    let some : 0 < length encoder.bytes =
    (let e : length encoder.bytes ≡ 8 = ap (λ e. length e.bytes) is ∙ rw empty refl in omega (arith, e)) in
    let chain =
    subst (λ k. encoder.chain ≡ header_link k) kind (header_chain Classic encoder.chain header.link) in
    let size = type_size g.C.Inner.TiffValue.value_type in
    let samples = map (sample_number size g.C.Inner.Sample.bits) c.args.samples.now in
    let Back : «Type» → Type 0 =
    λ inner. IfOk c.first_without_limits.result (λ image. ComesBack inner (columns_of g.C.ColorType.described c.args.width) c.args.height (length g.C.ColorType.described.bits) samples (decoded_as image)) in
    subst Back (sym g.met.C.NamedColorType.in_memory)
    (all_come_back c.first_shown.ensures c.reads_shown.ensures c.written_is_read.ensures g.C.ColorType.described size c.args.width c.args.height samples encoder c.write_image-written.new.self m
    image g.C.NamedColorType.name g.met.C.NamedColorType.named (ap type_size g.met.C.NamedColorType.in_memory)
    (are_numbers size g.C.Inner.Sample.bits c.args.samples.now) chain some c.into_vec-bytes.result.items c.first_without_limits.result file c.first_without_limits.ensures.first)

pub returns-in_err-written-clause-answer : goal.returns-in_err-written-clause-answer
returns-in_err-written-clause-answer g c =
    let size = type_size g.C.Inner.TiffValue.value_type in
    let samples = map (sample_number size g.C.Inner.Sample.bits) c.args.samples.now in
    let e = c.in_err-written.field-0.0 in
    let result : Result DecodingResult TiffError = c.from_residual-in_err-written.result in
    let is : result ≡ Err e = search rules in
    written_refused g.C.ColorType.described size c.args.width c.args.height samples e result is
    (alone g.C.ColorType.described size c.args.width c.args.height samples _ _ c.in_ok-encoder.encoder c.write_image-written.new.self (Err e)
    c.in_ok-encoder.ensures.answer (c.new-2.ensures
    ∙ c.new.ensures.items) c.in_err-written.ensures.answer
    (only_memory c.write_image-written.new.self.fault c.into_inner.result.refused c.into_inner.ensures.fault) tt)

pub returns-clause-answer : goal.returns-clause-answer
returns-clause-answer g c =
    let size = type_size g.C.Inner.TiffValue.value_type in
    let samples = map (sample_number size g.C.Inner.Sample.bits) c.args.samples.now in
    let file = c.into_vec-bytes.result.items in
    written_read g.C.ColorType.described size c.args.width c.args.height samples file c.first_without_limits.result
    (alone g.C.ColorType.described size c.args.width c.args.height samples _ _ c.in_ok-encoder.encoder c.write_image-written.new.self (Ok file)
    c.in_ok-encoder.ensures.answer (c.new-2.ensures
    ∙ c.new.ensures.items) c.in_ok-written.ensures.answer
    (only_memory c.write_image-written.new.self.fault c.into_inner.result.refused c.into_inner.ensures.fault) (c.into_vec-bytes.ensures ∙ c.into_inner.ensures.bytes))
    c.first_without_limits.ensures.answer
