use Rattle.std.proofs.Common.{◌≡◌, drop, map}
use Rattle.tiff_ffi.specs.Pages.{appended, each, step_view, tag_step}
use Rattle.tiff_ffi.proofs.pages.add_tags.Given as goal

-- What is left is made behind the steps so far.
abbrev pub invariant-loop-i : goal.invariant-loop-i
invariant-loop-i l =
    appended (map step_view l.fn.steps.items) (each tag_step l.tags)
    ≡ appended (map step_view l.steps.items) (each tag_step (drop l.i l.tags))
