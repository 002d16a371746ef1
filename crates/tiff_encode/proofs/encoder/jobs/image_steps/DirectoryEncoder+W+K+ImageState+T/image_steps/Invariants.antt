use Rattle.std.proofs.Common.{◌≡◌, ◌≤◌, take, vec_len, vec_capacity}
use Rattle.tiff_encode.specs.Stepping.{StepsDraw}
use Rattle.tiff_encode.proofs.encoder.jobs.image_steps.DirectoryEncoder+W+K+ImageState+T.image_steps.Given as goal

-- the first steps are done, and there is room for the replies of the others
abbrev pub invariant-loop-step : goal.invariant-loop-step
invariant-loop-step g l = record {
  same : l.self.encoder.ghost_name ≡ l.fn.self.encoder.ghost_name;
  kind : l.self.encoder.now.kind ≡ l.fn.self.encoder.now.kind;
  count : vec_len l.replies ≡ l.step-index;
  room : vec_capacity l.fn.replies ≤ vec_capacity l.replies;
  draws : StepsDraw l.fn.self.state (take l.step-index l.steps) l.replies.items l.fn.self.encoder.now l.self.encoder.now l.self.state;
}
