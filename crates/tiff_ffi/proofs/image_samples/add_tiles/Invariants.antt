use Rattle.std.proofs.Common.{◌≡◌, drop, map}
use Rattle.tiff_ffi.specs.Pages.{appended, each, pieces, step_view, tile_step}
use Rattle.tiff_ffi.proofs.image_samples.add_tiles.Given as goal

-- What is left is made behind the steps so far.
abbrev pub invariant-loop-i : goal.invariant-loop-i
invariant-loop-i l =
    appended (map step_view l.fn.steps.items) (each (tile_step l.color) (pieces l.count l.size l.bytes))
    ≡ appended (map step_view l.steps.items) (each (tile_step l.color) (drop l.i (pieces l.count l.size l.bytes)))
