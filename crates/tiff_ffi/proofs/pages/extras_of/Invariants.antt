use Rattle.std.proofs.Common.{◌≡◌, drop}
use Rattle.tiff_ffi.specs.Pages.{appended, each, extra_named}
use Rattle.tiff_ffi.proofs.pages.extras_of.Given as goal

-- What is left is made behind the extra samples so far.
abbrev pub invariant-loop-i : goal.invariant-loop-i
invariant-loop-i l =
    each extra_named l.numbers ≡ appended l.extras.items (each extra_named (drop l.i l.numbers))
