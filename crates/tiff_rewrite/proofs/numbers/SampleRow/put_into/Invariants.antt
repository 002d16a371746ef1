use Rattle.std.proofs.Common.{◌≡◌, ℕ, ◌/◌, ◌^◌, ◌<◌, get_or}
use Rattle.tiff_page.specs.Pixels.{row_number}
use Rattle.tiff_rewrite.specs.StoredNumbers.{place_of, plain_number, stored_by}
use Rattle.tiff_rewrite.proofs.numbers.SampleRow.put_into.Given as goal

-- the numbers before the next are put, and each byte of no such number is as before
abbrev pub invariant-loop-n : goal.invariant-loop-n
invariant-loop-n l = record {
  done : (m : ℕ) → m < l.n → row_number l.order l.self.size l.row (place_of l.self.shown l.stored m)
      ≡ stored_by l.self.predictor (256 ^ l.self.size) l.self.shown
      (plain_number l.self.meaning l.self.size l.self.samples.now) m;
  kept : (b : ℕ) → ((m : ℕ) → m < l.n → b / l.self.size ≡ place_of l.self.shown l.stored m → ⊥)
      → get_or l.row b 0 ≡ get_or l.fn.row b 0;
}
