use Rattle.std.proofs.Common.{◌≡◌, ◌+◌, length, take}
use Rattle.tiff_ffi.specs.Parents.{AreCounts}
use Rattle.tiff_ffi.proofs.children.counts_of.Given as goal

-- The counts so far are those of the pages so far.
abbrev pub invariant-loop-i : goal.invariant-loop-i
invariant-loop-i l =
    (length l.counts.items ≡ length l.pages + 1) × AreCounts l.counts.items (take l.i l.pages)
