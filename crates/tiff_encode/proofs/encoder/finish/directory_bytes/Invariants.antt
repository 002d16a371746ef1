use Rattle.std.proofs.Common.{◌≡◌, ◌++◌}
use Rattle.std.specs.FinMap.{len, entries}
use Rattle.std.specs.List.{flat_map}
use Rattle.tiff_base.specs.Number.{le}
use Rattle.tiff_value.specs.FileBytes.{count_len, entry_bytes}
use Rattle.tiff_encode.proofs.encoder.finish.directory_bytes.Given as goal

abbrev pub invariant-loop-tag : goal.invariant-loop-tag
invariant-loop-tag l =
    let fields = l.directory.entries in
    l.out.items ++ flat_map (entry_bytes l.kind) l.tag-iterator ≡ le (count_len l.kind) (len fields)
    ++ flat_map (entry_bytes l.kind) (entries fields)
