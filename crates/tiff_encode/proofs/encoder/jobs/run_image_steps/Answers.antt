use Rattle.std.proofs.Common.{rules}
use Rattle.tiff_encode.proofs.Running.Steps.{image_goes}
use Rattle.tiff_encode.proofs.encoder.jobs.run_image_steps.Goals as goal

pub returns : goal.returns
returns g c = λ known s q k h.
    image_goes known s c.end_image-last.new.self.0 _ (search rules) c.args.state c.image_steps.new.self.state c.args.job.now c.deref.result.now c.image_steps.new.replies
    c.end_image-last.result c.args.encoder.now c.image_steps.new.self.encoder.now c.deref.ensures.value c.image_steps.ensures.draws
    c.end_image-last.ensures q k h
