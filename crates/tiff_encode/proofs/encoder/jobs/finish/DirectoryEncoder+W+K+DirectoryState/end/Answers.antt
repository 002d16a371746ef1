use Rattle.std.proofs.Common.{subst, sym}
use Rattle.tiff_encode.specs.Jobs.{DirectoryEnds}
use Rattle.tiff_encode.specs.Stepping.{EndMoves}
use Rattle.tiff_encode.proofs.Running.Ends.{Nothing_held}
use Rattle.tiff_encode.proofs.encoder.jobs.finish.DirectoryEncoder+W+K+DirectoryState.end.Goals as goal

pub returns-in-Finish : goal.returns-in-Finish
returns-in-Finish g c =
    subst (λ end. EndMoves (λ s t offset. DirectoryEnds s c.args.self.state end c.end_with_offsets.result t offset) c.args.self.state.parent c.args.self.encoder.now c.end_with_offsets.new.self.0 Nothing_held)
    (sym c.in-Finish.is) c.end_with_offsets.ensures

pub returns-in-Discard : goal.returns-in-Discard
returns-in-Discard g c =
    subst (λ end. EndMoves (λ s t offset. DirectoryEnds s c.args.self.state end c.end_silently.result t offset) c.args.self.state.parent c.args.self.encoder.now c.end_silently.new.self.0 Nothing_held)
    (sym c.in-Discard.is) c.end_silently.ensures
