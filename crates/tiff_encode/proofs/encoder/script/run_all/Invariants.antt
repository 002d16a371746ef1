use Rattle.std.proofs.Common.{◌≡◌, ◌+◌, ◌-◌, ◌≤◌, length, take, vec_len, vec_capacity}
use Rattle.tiff_encode.specs.Running.{AreRooms, JobsMove}
use Rattle.tiff_encode.proofs.encoder.script.run_all.Given as goal

-- the first jobs are run, and there is room for the replies of the others
abbrev pub invariant-loop-job : goal.invariant-loop-job
invariant-loop-job g l = record {
  moved : JobsMove (take l.job-index l.jobs) l.fn.replies.items l.replies.items l.fn.encoder l.encoder;
  count : vec_len l.rooms + l.job-index ≡ length l.jobs;
  rooms : AreRooms l.jobs l.rooms.items;
  room : vec_len l.replies + (length l.jobs - l.job-index) ≤ vec_capacity l.replies;
  behind : vec_len l.fn.replies ≤ vec_len l.replies;
}
