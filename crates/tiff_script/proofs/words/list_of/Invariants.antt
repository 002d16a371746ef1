use Rattle.std.proofs.Common.{◌≡◌, [], length, drop}
use Rattle.std.specs.Prelude.{◌==◌}
use Rattle.std.specs.List.{slice_split}
use Rattle.tiff_script.specs.Line.{after_all, space, with_items}
use Rattle.tiff_script.proofs.words.list_of.Given as goal

abbrev pub invariant-loop-word : goal.invariant-loop-word
invariant-loop-word g l =
    after_all (with_items g.T.FromWord.meaning) l.list.items (drop (length l.yielded) (slice_split (λ b. b == space) l.words)) ≡ after_all (with_items g.T.FromWord.meaning) [] (slice_split (λ b. b == space) l.words)
