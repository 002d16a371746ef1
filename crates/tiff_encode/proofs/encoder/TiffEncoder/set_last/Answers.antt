use Rattle.std.proofs.Common.{rules, Ok, Err, ◌∙◌}
use Rattle.tiff_encode.proofs.Endings.{samples_unwritten, last_set}
use Rattle.tiff_encode.proofs.encoder.TiffEncoder.set_last.Goals as goal

pub returns-in_err-set_samples : goal.returns-in_err-set_samples
returns-in_err-set_samples g c =
    let told =
    samples_unwritten c.args.self.now.kind c.args.image.now _ c.image.view_is c.len-extra.result (c.len-extra.ensures ∙ c.image.inside.extra.ok.0)
    c.in_err-set_samples.field-0.0 c.args.self.now c.set_samples.new.self c.in_err-set_samples.ensures in
    search rules

pub returns : goal.returns
returns g c =
    last_set c.args.self.now.kind c.args.image.now _ c.image.view_is c.len-extra.result (c.len-extra.ensures ∙ c.image.inside.extra.ok.0) (λ d. d)
    c.set_samples.new.fields g.K.TiffKind.kind c.deref.result.now (Ok c.set_lists.new.fields) c.args.self.now c.set_samples.new.self c.set_lists.new.self
    c.fact_kind.ensures c.deref.ensures.value c.in_ok-set_samples.ensures c.in_ok-set_lists.ensures

pub returns-in_err-set_lists : goal.returns-in_err-set_lists
returns-in_err-set_lists g c =
    let told =
    last_set c.args.self.now.kind c.args.image.now _ c.image.view_is c.len-extra.result (c.len-extra.ensures ∙ c.image.inside.extra.ok.0) (λ d. d)
    c.set_samples.new.fields g.K.TiffKind.kind c.deref.result.now (Err c.in_err-set_lists.field-0.0) c.args.self.now c.set_samples.new.self c.set_lists.new.self
    c.fact_kind.ensures c.deref.ensures.value c.in_ok-set_samples.ensures c.in_err-set_lists.ensures in
    search rules
