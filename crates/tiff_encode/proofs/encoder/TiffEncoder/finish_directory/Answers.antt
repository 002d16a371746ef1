use Rattle.std.proofs.Common.{rules, ap, sym, ◌∙◌}
use Rattle.tiff_encode.specs.Causes.{is_past}
use Rattle.tiff_encode.specs.Machine.{OpenDirectory}
use Rattle.tiff_value.specs.FileBytes.{directory_bytes}
use Rattle.tiff_encode.proofs.Runs.{near}
use Rattle.tiff_encode.proofs.Ending.{within_grown, end_refused, end_unlisted, end_torn, end_done}
use Rattle.tiff_encode.proofs.encoder.TiffEncoder.finish_directory.Goals as goal

pub returns-in_err-end : goal.returns-in_err-end
returns-in_err-end g c =
    let told =
    end_refused (λ x. x) c.args.fields.now c.args.self.now c.in_err-end.field-0.0 c.in_err-end.ensures in
    search rules

pub returns-in_err-link : goal.returns-in_err-link
returns-in_err-link g c =
    let told =
    end_unlisted (λ x. x) c.args.fields.now c.args.self.now c.in_err-link.field-0.0 c.append_listed.new.self c.in_ok-end.ensures.2 c.in_ok-end.ensures.0
    c.in_err-link.ensures.listed in
    search rules

pub link_from-requires-clause-within : goal.link_from-requires-clause-within
link_from-requires-clause-within g c =
    let d : OpenDirectory = c.args.fields.now in
    within_grown c.args.self.now c.append_listed.new.self d g.K.TiffKind.kind
    (directory_bytes c.args.self.now.kind d.fields) c.fields.inside.parent
    c.fact_kind.ensures c.in_ok-end.ensures.0 c.in_ok-end.ensures.2 c.in_ok-link.ensures.listed.1
    (ap {A = OpenDirectory} (λ x. x.parent) c.fields.view_is)

pub link_from-requires-clause-near : goal.link_from-requires-clause-near
link_from-requires-clause-near g c =
    (λ i. is_past (sym c.fact_kind.ensures i) (c.in_ok-end.ensures.1 i))
    ∙ near c.args.self.now c.args.fields.now c.in_ok-end.ensures.2

pub returns-in_err-link_from : goal.returns-in_err-link_from
returns-in_err-link_from g c =
    let told =
    end_torn (λ x. x) c.args.fields.now c.args.self.now c.in_err-link_from.field-0.0 c.append_listed.new.self c.link_from.new.self c.in_ok-end.end
    c.fields.inside.parent c.in_ok-end.ensures.2 c.in_ok-end.ensures.0 c.in_ok-end.ensures.1 c.in_ok-link.ensures.listed.1
    (ap {A = OpenDirectory} (λ x. x.parent) c.fields.view_is) c.in_err-link_from.ensures in
    search rules

pub at-requires : goal.at-requires
at-requires g c =
    (λ i. is_past (sym c.fact_kind.ensures i) (c.in_ok-end.ensures.1 i))
    ∙ near c.args.self.now c.args.fields.now c.in_ok-end.ensures.2

pub returns : goal.returns
returns g c =
    end_done (λ x. x) c.args.fields.now c.args.self.now c.at.result c.append_listed.new.self c.link_from.new.self c.chain_with.new.self c.in_ok-end.end
    c.in_ok-link.link c.fields.inside.parent c.fields.inside.chained c.in_ok-end.ensures.2 c.in_ok-end.ensures.1
    c.in_ok-link.ensures.listed.1 c.in_ok-link_from.ensures
    (ap {A = OpenDirectory} (λ x. x.parent) c.fields.view_is) (ap {A = OpenDirectory} (λ x. x.chained) c.fields.view_is)
    c.in_ok-link.ensures.listed.0 c.at.ensures c.chain_with.ensures
