use Rattle.std.proofs.Common.{◌≡◌, ℕ, ◌<◌}
use Rattle.tiff_base.specs.declared.tags.ByteOrder.TheVariants.{LittleEndian, BigEndian}
use Rattle.tiff_page.specs.Pixels.{row_number}
use Rattle.tiff_page.proofs.predictors.turn_numbers.Given as goal

-- the numbers before the next are byte-swapped
abbrev pub invariant-loop-k : goal.invariant-loop-k
invariant-loop-k l =
    (j : ℕ) → j < l.k → row_number LittleEndian l.size l.out j ≡ row_number BigEndian l.size l.row j
