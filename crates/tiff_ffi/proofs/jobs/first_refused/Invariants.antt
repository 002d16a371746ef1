use Rattle.std.proofs.Common.{◌≡◌, ◌+◌, drop}
use Rattle.tiff_ffi.specs.Jobs.{first_refused}
use Rattle.tiff_ffi.proofs.jobs.first_refused.Given as goal

-- No job so far had an error.
abbrev pub invariant-loop-i : goal.invariant-loop-i
invariant-loop-i l = first_refused 1 l.replies ≡ first_refused (l.i + 1) (drop l.i l.replies)
