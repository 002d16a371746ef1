use Rattle.std.proofs.Common.{◌≡◌, drop}
use Rattle.tiff_ffi.specs.Pages.{placed_at}
use Rattle.tiff_ffi.proofs.parents.put_places.Given as goal

-- What is left is put behind the offsets so far.
abbrev pub invariant-loop-i : goal.invariant-loop-i
invariant-loop-i l =
    placed_at l.fn.places l.numbers l.offsets
    ≡ placed_at l.places (drop l.i l.numbers) (drop l.i l.offsets)
