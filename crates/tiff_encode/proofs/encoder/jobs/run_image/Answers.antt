use Rattle.std.proofs.Common.{rules, refl, ap, sym, ◌∙◌, subst}
use Rattle.tiff_base.specs.Types.{type_size}
use Rattle.tiff_value.specs.ColorTypes.{color_type, inner_type}
use Rattle.tiff_encode.specs.Calls.{new_image}
use Rattle.tiff_encode.proofs.Running.Steps.{Begun, NotBegun, job_image_is, not_begun_as, image_runs, image_refused}
use Rattle.tiff_encode.proofs.encoder.jobs.run_image.Goals as goal

pub returns-in-Ok : goal.returns-in-Ok
returns-in-Ok g c = λ kind known run q s.
    let j = c.args.job.now in
    let old = c.args.encoder.now in
    let i = c.in-Ok.image.state in
    let mid = c.in-Ok.image.encoder.now in
    let color = g.C.ColorType.described in
    let size = type_size g.C.Inner.TiffValue.value_type in
    image_runs j c.run_image_steps.result old mid c.run_image_steps.new.encoder _ i known run
    (search rules) (search rules)
    (subst (λ call. Begun call old i mid) (job_image_is j color size (g.met.C.NamedColorType.named
    ∙ ap color_type (sym c.requires.named))
    (ap type_size (g.met.C.NamedColorType.in_memory ∙ ap inner_type (sym c.requires.named))))
    (record { told = c.in-Ok.ensures.begun; leaves = c.in-Ok.ensures.leaves }))
    c.run_image_steps.ensures (search rules) kind q s

pub returns-in-Err : goal.returns-in-Err
returns-in-Err g c = λ kind known run q s.
    let j = c.args.job.now in
    let old = c.args.encoder.now in
    let new = c.new_image.follows.lender-at-none in
    let color = g.C.ColorType.described in
    let size = type_size g.C.Inner.TiffValue.value_type in
    image_refused j _ c.in-Err.fault old new known run
    (subst (λ call. NotBegun call old c.in-Err.fault new) (job_image_is j color size (g.met.C.NamedColorType.named ∙ ap color_type (sym c.requires.named))
    (ap type_size (g.met.C.NamedColorType.in_memory ∙ ap inner_type (sym c.requires.named))))
    (not_begun_as (new_image color size j.width j.height) c.new_image.result c.in-Err.fault old new c.in-Err.is
    c.new_image.follows.holds-at-none))
    (c.requires.room.0, refl) q s
