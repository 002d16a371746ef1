use Rattle.std.proofs.Common.{◌≡◌, ℕ, ◌*◌, ◌/◌, ◌<◌, ◌≤◌, length, get_or}
use Rattle.tiff_base.specs.declared.tags.ByteOrder.TheVariants.{LittleEndian}
use Rattle.tiff_page.specs.Pixels.{row_number, summed_number}
use Rattle.tiff_page.proofs.predictors.sum_numbers.Given as goal

-- the numbers before the next are summed, and the rest is unchanged
abbrev pub invariant-loop-k : goal.invariant-loop-k
invariant-loop-k l = record {
  done : (j : ℕ) → j < l.k → row_number LittleEndian l.size l.row j
      ≡ summed_number LittleEndian l.size l.stored l.fn.row j;
  rest : (j : ℕ) → l.k ≤ j → row_number LittleEndian l.size l.row j
      ≡ row_number LittleEndian l.size l.fn.row j;
  behind : (i : ℕ) → length l.fn.row / l.size * l.size ≤ i → get_or l.row i 0 ≡ get_or l.fn.row i 0;
}
