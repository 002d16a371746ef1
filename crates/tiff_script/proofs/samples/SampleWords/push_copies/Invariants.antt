use Rattle.std.proofs.Common.{◌≡◌, ◌++◌, replicate}
use Rattle.tiff_script.proofs.samples.SampleWords.push_copies.Given as goal

abbrev pub invariant-loop : goal.invariant-loop
invariant-loop l = l.samples.items ≡ l.initial.samples.items ++ replicate l.counter l.sample
