use Rattle.std.proofs.Common.{◌≡◌, ℕ, ◌+◌, ◌%◌, ◌<◌, ◌≤◌, get_or, length}
use Rattle.tiff_page.proofs.predictors.sum_pixel.Given as goal

-- the bytes before the next are summed, and the rest is unchanged
abbrev pub invariant-loop-j : goal.invariant-loop-j
invariant-loop-j g l = record {
  done : (i : ℕ) → i < l.j → get_or l.pixel i 0
      ≡ (get_or l.fn.last i 0 + get_or l.fn.pixel i 0) % 256;
  held : (i : ℕ) → i < l.j → get_or l.last i 0 ≡ get_or l.pixel i 0;
  rest : (i : ℕ) → l.j ≤ i → get_or l.pixel i 0 ≡ get_or l.fn.pixel i 0;
  size : length l.last ≡ length l.fn.last;
  kept : (i : ℕ) → l.j ≤ i → get_or l.last i 0 ≡ get_or l.fn.last i 0;
}
