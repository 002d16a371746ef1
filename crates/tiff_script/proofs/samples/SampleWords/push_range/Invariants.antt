use Rattle.std.proofs.Common.{◌≡◌, ◌++◌, replicate}
use Rattle.std.specs.List.{concat}
use Rattle.tiff_script.specs.Samples.{ascending}
use Rattle.tiff_script.proofs.samples.SampleWords.push_range.Given as goal

abbrev pub invariant-loop : goal.invariant-loop
invariant-loop l =
    l.samples.items ≡ l.initial.samples.items ++ concat (replicate l.counter (ascending l.range))
