use Rattle.std.proofs.Common.{◌≡◌, [], length, drop}
use Rattle.std.specs.Prelude.{◌==◌}
use Rattle.std.specs.List.{slice_split}
use Rattle.tiff_script.specs.Line.{after_all, space}
use Rattle.tiff_script.specs.Samples.{with_samples}
use Rattle.tiff_script.proofs.samples.SampleWords.samples_of.Given as goal

abbrev pub invariant-loop-word : goal.invariant-loop-word
invariant-loop-word l =
    after_all (with_samples l.self) l.samples.items (drop (length l.yielded) (slice_split (λ b. b == space) l.words)) ≡ after_all (with_samples l.self) [] (slice_split (λ b. b == space) l.words)
