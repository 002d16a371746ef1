use Rattle.std.proofs.Common.{subst}
use Rattle.tiff_encode.specs.Machine.{FileState}
use Rattle.tiff_encode.specs.Running.{JobsMove}
use Rattle.tiff_append.proofs.run.run_at.Goals as goal

pub returns : goal.returns
returns g c =
    let last : FileState = c.run_jobs_in.new.encoder in
    let Moves : FileState → Type 0 =
    λ s. JobsMove c.args.jobs.now c.args.replies.now.items c.run_jobs_in.new.replies.items s last in
    record {
      within = c.in_ok-encoder.ensures.answer.0;
      failures = g.W.Sink.failures c.args.sink;
      last = last;
      moves = subst Moves c.in_ok-encoder.ensures.answer.1 c.in_ok-run_jobs_in.ensures;
      left_is = c.into_inner.ensures.bytes;
    }
