use Rattle.std.proofs.Common.{rules}
use Rattle.tiff_encode.proofs.Running.Steps.{directory_goes}
use Rattle.tiff_encode.proofs.encoder.jobs.lead_directory.Goals as goal

pub returns : goal.returns
returns g c = λ known s q k h.
    directory_goes known s c.end-last.new.self.0 _ (search rules) c.args.state c.steps.new.self.state c.args.job.now c.deref.result.now c.steps.new.replies c.end-last.result
    c.args.encoder.now c.steps.new.self.encoder.now c.deref.ensures.value c.steps.ensures.moves c.end-last.ensures q k h
