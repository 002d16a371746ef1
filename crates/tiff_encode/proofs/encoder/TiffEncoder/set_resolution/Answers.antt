use Rattle.std.proofs.Common.{rules, ap, refl, inl, inr}
use Rattle.std.proofs.lemmas.Result.{err_from_is_err_and}
use Rattle.tiff_encode.specs.Calls.{with_directory_of, resolution_tags}
use Rattle.tiff_encode.proofs.Image.Table.{Both}
use Rattle.tiff_encode.proofs.Settings.{set_refused, set_fails, set_so, tags_fail, tags_so, stops_so}
use Rattle.tiff_encode.proofs.encoder.TiffEncoder.set_resolution.Goals as goal

pub returns-in_err-check_resolution-clause-part : goal.returns-in_err-check_resolution-clause-part
returns-in_err-check_resolution-clause-part g c =
    let p = err_from_is_err_and c.from_residual.result c.from_residual.ensures.1 in
    rw (p.1, p.2) (inl (refl, set_refused (Both c.args.unit (c.args.value.n, c.args.value.d)) c.args.image.now c.args.self.now c.in_err-check_resolution.field-0.0 c.in_err-check_resolution.ensures))

pub returns-in_err-check_resolution-clause-answer : goal.returns-in_err-check_resolution-clause-answer
returns-in_err-check_resolution-clause-answer g c =
    let told =
    set_refused (Both c.args.unit (c.args.value.n, c.args.value.d)) c.args.image.now c.args.self.now c.in_err-check_resolution.field-0.0 c.in_err-check_resolution.ensures in
    search rules

pub returns-clause-answer : goal.returns-clause-answer
returns-clause-answer g c =
    let old = c.args.self.now in
    let d = c.image.inside.directory in
    let tags = resolution_tags c.args.unit (c.args.value.n, c.args.value.d) in
    set_so (Both c.args.unit (c.args.value.n, c.args.value.d)) c.args.image.now old d c.set_tags.new.fields _ c.set_tags.new.self
    c.in_ok-check_resolution.ensures (ap (λ x. x.directory) c.image.view_is)
    (tags_so _ tags c.resolution_values-values.ensures d c.set_tags.new.fields old c.set_tags.new.self c.in_ok-set_tags.ensures.answer)
    (ap (λ x. with_directory_of x c.set_tags.new.fields) c.image.view_is)

pub returns-in_err-set_tags-clause-part : goal.returns-in_err-set_tags-clause-part
returns-in_err-set_tags-clause-part g c =
    let p =
    err_from_is_err_and c.from_residual-in_err-set_tags.result c.from_residual-in_err-set_tags.ensures.1 in
    let i = c.args.image.now in
    let old = c.args.self.now in
    let d = c.image.inside.directory in
    let tags = resolution_tags c.args.unit (c.args.value.n, c.args.value.d) in
    rw (p.1, p.2) (inr (
      c.in_ok-check_resolution.ensures,
      (
        c.set_tags.new.fields,
        (
          ap (λ x. with_directory_of x c.set_tags.new.fields) c.image.view_is,
          stops_so _ tags c.resolution_values-values.ensures i.directory d c.set_tags.new.fields c.in_err-set_tags.field-0.0 old c.set_tags.new.self
              (ap (λ x. x.directory) c.image.view_is) c.in_err-set_tags.ensures.part,
        ),
      ),
    ))

pub returns-in_err-set_tags-clause-answer : goal.returns-in_err-set_tags-clause-answer
returns-in_err-set_tags-clause-answer g c =
    let told =
    let old = c.args.self.now in
    let d = c.image.inside.directory in
    let tags = resolution_tags c.args.unit (c.args.value.n, c.args.value.d) in
    set_fails (Both c.args.unit (c.args.value.n, c.args.value.d)) c.args.image.now old c.in_err-set_tags.field-0.0 d c.set_tags.new.self
    c.in_ok-check_resolution.ensures (ap (λ x. x.directory) c.image.view_is)
    (tags_fail _ tags c.resolution_values-values.ensures d c.in_err-set_tags.field-0.0 old c.set_tags.new.self c.in_err-set_tags.ensures.answer) in
    search rules
