use Rattle.std.proofs.Common.{Ok, Err, ap, ◌∙◌}
use Rattle.std.specs.Bool.{then_some}
use Rattle.std.proofs.lemmas.Result.{err_from_is_err_and}
use Rattle.tiff_encode.proofs.Guarding.{opened_told, opened_fails, opened_leaves}
use Rattle.tiff_encode.proofs.encoder.TiffEncoder.begin_directory.Goals as goal

pub returns : goal.returns
returns g c =
    let old = c.args.self.now in
    let new = c.pad.new.self in
    let at = ap (λ s. s.chain) c.self.view_is ∙ ap (λ s. s.chain) c.in_ok-pad.ensures.1 in
    let told =
    opened_told c.args.chained c.empty.result.entries c.then_some.result old new c.in_ok-pad.ensures (ap (λ d. d.entries) c.empty.ensures)
    (c.then_some.ensures ∙ ap (then_some c.args.chained) at) in
    record { answer = told; leaves = λ m s. opened_leaves c.args.chained (Ok _) old new m s told }

pub returns-in_err-pad : goal.returns-in_err-pad
returns-in_err-pad g c =
    let p = err_from_is_err_and c.from_residual.result c.from_residual.ensures.1 in
    let old = c.args.self.now in
    let e = c.in_err-pad.field-0.0 in
    let fails = opened_fails c.args.chained e old c.pad.new.self c.in_err-pad.ensures in
    rw (p.1, p.2) (record { answer = fails; leaves = λ m s. opened_leaves c.args.chained (Err e) old c.pad.new.self m s fails })
