use Rattle.std.proofs.Common.{◌≡◌, ◌≤◌, ◌+◌, ◌-◌, ◌++◌, map}
use Rattle.std.specs.Prelude.{bit_xor}
use Rattle.std.specs.List.{range_with_len}
use Rattle.tiff_script.proofs.samples.push_ascending.Given as goal

abbrev pub invariant-loop-number : goal.invariant-loop-number
invariant-loop-number l =
    let count = l.number - l.range.first in
    (l.range.first ≤ l.number) × (count ≤ l.range.last + 1 - l.range.first)
    × (l.samples.items ≡ l.initial.samples.items
    ++ map (λ n. bit_xor n l.range.sign) (range_with_len l.range.first count))
