use Rattle.std.proofs.Common.{◌≡◌, ◌++◌, map}
use Rattle.std.specs.FinMap.{entries}
use Rattle.tiffpage_lib.proofs.listing.tag_numbers.Given as goal

abbrev pub invariant-loop-tag : goal.invariant-loop-tag
invariant-loop-tag l =
    l.numbers.items ++ map (λ e. e.0) l.tag-iterator
    ≡ map (λ e. e.0) (entries l.fn.directory.entries)
