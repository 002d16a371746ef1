use Rattle.std.proofs.Common.{◌≡◌, ℕ, ◌*◌, ◌<◌, ◌≤◌, get_or}
use Rattle.tiff_base.specs.declared.tags.ByteOrder.TheVariants.{LittleEndian}
use Rattle.tiff_page.specs.Pixels.{summed_number}
use Rattle.tiff_page.specs.lemmas.Rows.{CarriesTo}
use Rattle.tiff_page.proofs.predictors.sum_pixels.Given as goal

-- the pixels before the next are summed, the rest is unchanged, and the last sums are those for the
-- next pixel
abbrev pub invariant-loop-k : goal.invariant-loop-k
invariant-loop-k g l = record {
  done : (i : ℕ) → i < l.k * g.row.N
      → get_or l.row i 0 ≡ summed_number LittleEndian 1 g.row.N l.fn.row i;
  rest : (i : ℕ) → l.k * g.row.N ≤ i → get_or l.row i 0 ≡ get_or l.fn.row i 0;
  carries : CarriesTo g.row.N l.fn.row l.last l.k;
}
