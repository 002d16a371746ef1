use Rattle.std.proofs.Common.{◌≡◌, ◌++◌}
use Rattle.std.specs.FinMap.{entries}
use Rattle.std.specs.List.{filter_map}
use Rattle.tiff_pages.specs.Tree.{pointer}
use Rattle.tiff_pages.proofs.tree.pointers.Given as goal

abbrev pub invariant-loop-tag : goal.invariant-loop-tag
invariant-loop-tag l =
    l.found.items ++ filter_map pointer l.tag-iterator
    ≡ filter_map pointer (entries l.directory.entries)
