use Rattle.std.proofs.Common.{◌≡◌, ℕ, ◌<◌, List, length, Ok, Err, ap, sym, subst, refl, ◌∙◌, arith, rules}
use Rattle.tiff.specs.Model.{IsLink, FileContains, header_model}
use Rattle.tiff.specs.Shows.{ShowsGray}
use Rattle.tiff_base.specs.declared.tags.FileKind.TheVariants.{Classic}
use Rattle.tiff.specs.lemmas.MemoryFaults.{only_memory}
use Rattle.tiff_value.specs.ColorTypes.{color_type, inner_type}
use Rattle.tiff.proofs.Gray.{gray_bytes_shown, header_chain}
use Rattle.tiff_uses.proofs.GrayFile.{gray_answered}
use Rattle.tiff_uses.proofs.gray_file.Goals as goal

pub returns-in_err-written-clause-answer : goal.returns-in_err-written-clause-answer
unfolding color_type inner_type
returns-in_err-written-clause-answer c =
    let told =
    gray_answered c.args.width c.args.height c.args.samples.now _ _ c.in_ok-encoder.encoder c.write_image-written.new.self (Err c.in_err-written.field-0.0)
    c.in_ok-encoder.ensures.answer (c.new.ensures
    ∙ c.in_ok-room.ensures.items) c.in_err-written.ensures.answer
    (only_memory c.write_image-written.new.self.fault c.into_inner.result.refused c.into_inner.ensures.fault) tt in
    search rules

pub returns-clause-answer : goal.returns-clause-answer
unfolding color_type inner_type
returns-clause-answer c =
    gray_answered c.args.width c.args.height c.args.samples.now _ _ c.in_ok-encoder.encoder c.write_image-written.new.self (Ok c.into_vec-file.result.items)
    c.in_ok-encoder.ensures.answer (c.new.ensures
    ∙ c.in_ok-room.ensures.items) c.in_ok-written.ensures.answer
    (only_memory c.write_image-written.new.self.fault c.into_inner.result.refused c.into_inner.ensures.fault) (c.into_vec-file.ensures ∙ c.into_inner.ensures.bytes)

pub returns-clause-shows : goal.returns-clause-shows
returns-clause-shows c =
    let encoder = c.in_ok-encoder.encoder in
    let empty = c.new.ensures ∙ c.in_ok-room.ensures.items in
    let header = c.in_ok-encoder.ensures.leaves empty in
    let is = c.in_ok-encoder.ensures.answer in
    let kind = sym (ap (λ e. e.kind) is) in
    let m = header_model Classic in
    let image =
    c.in_ok-written.ensures.leaves m (subst (λ k. FileContains k encoder.bytes m) kind header.stands) (subst (λ k. IsLink k m encoder.chain) kind header.link) in
    let file = c.into_vec-file.ensures ∙ c.into_inner.ensures.bytes in
    let some : 0 < length encoder.bytes =
    (let e : length encoder.bytes ≡ 8 = ap (λ e. length e.bytes) is ∙ rw empty refl in omega (arith, e)) in
    subst (λ (l : List ℕ). ShowsGray l c.args.width c.args.height c.args.samples.now) (sym file)
    (gray_bytes_shown c.args.width c.args.height c.args.samples.now encoder c.write_image-written.new.self m c.type_inv.samples (ap (λ e. e.kind) is) (header_chain Classic encoder.chain header.link) some
    (ap (λ e. e.compression) is) (ap (λ e. e.predictor) is) image)
