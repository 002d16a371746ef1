use Rattle.std.proofs.Common.{◌≡◌, ◌≢◌, ℕ, ◌+◌, ◌<◌, get_or}
use Rattle.tiff_value.proofs.encoder.compression.literal_len.Given as goal

-- no three equal bytes begin before `count`
abbrev pub invariant-loop-count : goal.invariant-loop-count
invariant-loop-count l =
    (k : ℕ) → k < l.count → k + 2 < l.limit → get_or l.bytes k 0 ≡ get_or l.bytes (k + 1) 0
    → get_or l.bytes (k + 1) 0 ≢ get_or l.bytes (k + 2) 0
