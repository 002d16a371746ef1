use Rattle.std.proofs.Common.{◌≡◌, ◌≤◌, take, vec_len, vec_capacity}
use Rattle.tiff_encode.specs.Jobs.{AllStepped, DirectoryStepped}
use Rattle.tiff_encode.specs.Stepping.{Moves}
use Rattle.tiff_encode.proofs.encoder.jobs.directory_steps.DirectoryEncoder+W+K+DirectoryState.steps.Given as goal

-- the first steps are done, and there is room for the replies of the others
abbrev pub invariant-loop-step : goal.invariant-loop-step
invariant-loop-step g l = record {
  same : l.self.encoder.ghost_name ≡ l.fn.self.encoder.ghost_name;
  count : vec_len l.replies ≡ l.step-index;
  room : vec_capacity l.fn.replies ≤ vec_capacity l.replies;
  moves : Moves (λ s t. AllStepped DirectoryStepped s l.fn.self.state (take l.step-index l.steps) l.replies.items t l.self.state) l.fn.self.encoder.now l.self.encoder.now;
}
