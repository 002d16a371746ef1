use Rattle.std.proofs.Common.{◌≡◌, ℕ, ◌+◌, ◌<◌, Ok}
use Rattle.tiff_page.specs.PixelFault.{form_fault}
use Rattle.tiff_page.specs.PageView as view
use Rattle.tiff_page.proofs.page_reader.PageReader.are_formed.Given as goal

-- the chunks so far pass the checks of their form
abbrev pub invariant-loop-column : goal.invariant-loop-column
invariant-loop-column l =
    (column : ℕ) → column < l.column
    → form_fault (view.page l.self.page.now) l.self.limits.now l.color (l.first + column)
    ≡ Ok tt
