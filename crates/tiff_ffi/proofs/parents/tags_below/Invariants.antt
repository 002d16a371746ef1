use Rattle.std.proofs.Common.{◌≡◌, ◌+◌, count_by, nat_lt}
use Rattle.std.specs.FinMap.{entries}
use Rattle.tiff_ffi.proofs.parents.tags_below.Given as goal

-- the tags that are left, with those that were counted
abbrev pub invariant-loop-tag : goal.invariant-loop-tag
invariant-loop-tag l =
    l.count + count_by (λ e. nat_lt e.0 l.number) l.tag-iterator
    ≡ count_by (λ e. nat_lt e.0 l.number) (entries l.directory.entries)
