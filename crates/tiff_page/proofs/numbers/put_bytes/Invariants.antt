use Rattle.std.proofs.Common.{◌+◌, ◌-◌, ◌<◌, ◌≤◌, map}
use Rattle.std.specs.Prelude.{slice_index}
use Rattle.tiff_page.specs.NumberBytes.{bytes_in}
use Rattle.tiff_page.specs.BufferPositions.{Writes}
use Rattle.tiff_page.proofs.numbers.put_bytes.Given as goal

-- the bytes so far are written
abbrev pub invariant-loop-k : goal.invariant-loop-k
invariant-loop-k g l =
    Writes (λ i. (l.at ≤ i) × (i < l.at + l.k)) (λ i. slice_index l.row (i - l.at))
    (bytes_in g.row.N (map g.T.Number.bits l.fn.numbers)) (bytes_in g.row.N (map g.T.Number.bits l.numbers))
