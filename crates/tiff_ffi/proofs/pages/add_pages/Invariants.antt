use Rattle.std.proofs.Common.{◌≡◌, ◌+◌, drop, length, take}
use Rattle.tiff_ffi.specs.Pages.{behind, jobs_from, jobs_of_pages, pages_view}
use Rattle.tiff_ffi.specs.Parents.{AreCounts}
use Rattle.tiff_ffi.proofs.pages.add_pages.Given as goal

-- The counts are those of the pages so far, and what is left is made behind their jobs.
abbrev pub invariant-loop-i : goal.invariant-loop-i
invariant-loop-i l =
    (length l.seen.items ≡ length l.pages + 1)
    × (AreCounts l.seen.items (take l.i l.pages)
    × (jobs_of_pages l.kind l.pages ≡ behind (pages_view l.jobs) (jobs_from l.kind l.pages (l.i + 1) (drop l.i l.pages))))
