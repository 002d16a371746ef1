use Rattle.std.proofs.Common.{ℕ, sym, subst}
use Rattle.tiff_encode.specs.ImageStepping.{ResolutionDraws}
use Rattle.tiff_encode.proofs.Image.StepsResolved.{resolution_draws}
use Rattle.tiff_encode.proofs.encoder.jobs.image_steps.DirectoryEncoder+W+K+ImageState+T.resolution_step.Goals as goal

pub returns-clause-draws : goal.returns-clause-draws
returns-clause-draws g c =
    let value : ℕ × ℕ = (c.args.value.n, c.args.value.d) in
    let old = c.args.self.now in
    let new = c.resolution-answer.new.self in
    let e = c.resolution-answer.ensures in
    subst (λ y. ResolutionDraws old.state c.args.unit value y old.encoder.now new.encoder.now new.state) (sym c.replied.ensures)
    (resolution_draws old.state new.state c.args.unit value c.resolution-answer.result old.encoder.now new.encoder.now c.fact_fits.ensures c.fact_short.ensures e.part e.answer e.leaves)
