use Rattle.std.proofs.Common.{◌≡◌}
use Rattle.std.specs.FinMap.{entries}
use Rattle.std.specs.List.{list_any}
use Rattle.tiff_encode.specs.Causes.{is_past}
use Rattle.tiff_encode.proofs.encoder.finish.has_far_count.Given as goal

abbrev pub invariant-loop-entry : goal.invariant-loop-entry
invariant-loop-entry l =
    list_any (λ entry. is_past l.kind entry.1.count) l.entry-iterator
    ≡ list_any (λ entry. is_past l.kind entry.1.count) (entries l.directory.entries)
