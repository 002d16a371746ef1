-- The contents of a source never change, nor do its readable bytes.
use Rattle.std.proofs.Common.{◌≡◌, ℕ, ◌+◌, ◌≤◌, arith, ap}
use Rattle.tiff_base.specs.SourceAndSink.{SourceRecord, AreReadable}

pub same_bytes : {s t : SourceRecord} → s ≡ t → s.bytes ≡ t.bytes
same_bytes e = ap (λ (x : SourceRecord). x.bytes) e

-- a part of readable bytes is readable
pub part_readable : (s : SourceRecord) (at len from n : ℕ) → at ≤ from → from + n ≤ at + len
    → AreReadable s at len → AreReadable s from n
part_readable s at len from n l h r k kl kh = r k (omega (arith, l, kl)) (omega (arith, h, kh))
