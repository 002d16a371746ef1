use Rattle.std.proofs.Common.{◌≡◌, map, drop}
use Rattle.tiff_ffi.specs.Jobs.{first_status}
use Rattle.tiff_ffi.specs.Status.{status}
use Rattle.tiff_ffi.proofs.jobs.steps_status.Given as goal

-- No step so far was refused.
abbrev pub invariant-loop-i : goal.invariant-loop-i
invariant-loop-i l =
    first_status (map status l.steps) ≡ first_status (map status (drop l.i l.steps))
