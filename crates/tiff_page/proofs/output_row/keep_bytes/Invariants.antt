use Rattle.std.proofs.Common.{◌≡◌, ℕ, ◌+◌, ◌*◌, ◌/◌, ◌%◌, ◌<◌, get_or}
use Rattle.tiff_page.proofs.output_row.keep_bytes.Given as goal

abbrev pub invariant-loop-column : goal.invariant-loop-column
invariant-loop-column l =
    (i : ℕ) → i < l.column * l.pixel.shown
    → get_or l.out i 0 ≡ get_or l.row (i / l.pixel.shown * l.pixel.stored + i % l.pixel.shown) 0
