use Rattle.std.proofs.Common.{◌≡◌, List, ◌++◌, ℕ}
use Rattle.std.specs.FinMap.{entries}
use Rattle.tiff_base.specs.Field.{Field}
use Rattle.tiff_encode.specs.Calls as calls
use Rattle.tiff_encode.specs.Machine.{OpenDirectory}
use Rattle.tiff_encode.proofs.encoder.directory.state.DirectoryStateHasDirectory.extend_from.Given as goal

-- the first fields are set, and the others follow
abbrev pub invariant-loop-tag : goal.invariant-loop-tag
invariant-loop-tag l =
    let now : OpenDirectory = record {
      fields = l.self-inside.directory.entries;
      parent = l.self-inside.parent;
      chained = l.self-inside.chained;
    } in
    (done : List (ℕ × Field)) × ((done ++ l.tag-iterator ≡ entries l.directory.entries)
    × (now ≡ calls.extend_from l.fn.self done))
