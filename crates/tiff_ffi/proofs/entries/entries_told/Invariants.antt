use Rattle.std.proofs.Common.{◌≡◌, ◌++◌, map}
use Rattle.tiff_ffi.specs.Entries.{entries_told, entry_told}
use Rattle.tiff_ffi.proofs.entries.entries_told.Given as goal

abbrev pub invariant-loop-tag : goal.invariant-loop-tag
invariant-loop-tag l =
    l.told.items ++ map (entry_told l.fn.kind l.fn.order) l.tag-iterator
    ≡ entries_told l.fn.kind l.fn.order l.fn.directory
