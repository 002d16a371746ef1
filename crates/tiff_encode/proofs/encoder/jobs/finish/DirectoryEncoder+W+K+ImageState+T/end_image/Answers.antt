use Rattle.std.proofs.Common.{inl, inr, subst, sym}
use Rattle.tiff_encode.specs.declared.encoder.script.ImageEnd.{ImageEnd}
use Rattle.tiff_encode.specs.Jobs.{ImageEnds}
use Rattle.tiff_encode.specs.Stepping.{EndMoves, ImageHeld}
use Rattle.tiff_encode.proofs.encoder.jobs.finish.DirectoryEncoder+W+K+ImageState+T.end_image.Goals as goal

pub returns-in-WriteData : goal.returns-in-WriteData
returns-in-WriteData g c =
    subst (λ end. EndMoves (λ s t offset. ImageEnds s c.args.self.state end c.write_numbers.result t offset) c.args.self.state.directory.parent c.args.self.encoder.now c.write_numbers.new.self.0 (ImageHeld c.args.self.state end))
    (sym c.in-WriteData.is) c.write_numbers.ensures

pub returns-in-Finish : goal.returns-in-Finish
returns-in-Finish g c =
    let i = c.args.self.state in
    let P : ImageEnd → Type 0 =
    λ end. EndMoves (λ s t offset. ImageEnds s i end c.finish_drawn.result t offset) i.directory.parent c.args.self.encoder.now c.finish_drawn.new.self.0 (ImageHeld i end) in
    elim c.in-Finish.is as (λ _. P c.args.end.now) [
      | inl q ↦ subst P (sym q) c.finish_drawn.ensures
      | inr q ↦ subst P (sym q) c.finish_drawn.ensures
    ]
