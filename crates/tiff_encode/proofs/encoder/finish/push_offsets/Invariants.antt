use Rattle.std.proofs.Common.{◌≡◌, ◌++◌, map, take}
use Rattle.std.specs.List.{flat_map}
use Rattle.tiff_base.specs.Number.{le}
use Rattle.tiff_encode.specs.LastTags.{number_of_part}
use Rattle.tiff_value.specs.FileBytes.{offset_len}
use Rattle.tiff_encode.proofs.encoder.finish.push_offsets.Given as goal

abbrev pub invariant-loop-chunk : goal.invariant-loop-chunk
invariant-loop-chunk l =
    l.out.items ≡ l.fn.out.items ++ flat_map (le (offset_len l.kind))
    (map (number_of_part l.part) (take l.chunk-index l.chunks))
